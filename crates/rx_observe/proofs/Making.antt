-- An index that takes the documents of a collection one after another.
use Rattle.std.proofs.Common.{◌≡◌, ℕ, cond, true, false, List, [], ◌∷◌, ◌++◌, append_assoc, Some, None, refl, sym, ap, ◌∙◌, subst}
use Rattle.std.specs.List.{AllByRecursion}
use Rattle.std.specs.List.Sorted.{IsStrictlySortedBy}
use Rattle.std.specs.Map.{keys_of, values_of}
use Rattle.std.specs.Str.{bytes_eq}
use Rattle.std.specs.declared.cmp.Ordering.TheVariants.{Less}
use Rattle.rx_value.proofs.Named.{named-put_named, named-put_in_order}
use Rattle.rx_value.specs.Named.{named, put_named, put_in_order, AreRising}
use Rattle.rx_value.specs.Order.{text_cmp}
use Rattle.rx_value.proofs.Lists.{all_at}
use Rattle.rx_document.specs.Documents.{Documents}
use Rattle.rx_document.specs.declared.stored.Stored.{Stored}
use Rattle.rx_query.specs.Result.{IsCollection}
use Rattle.rx_collection.proofs.Named.{above_other}
use Rattle.rx_collection.specs.Held.{Held}
use Rattle.rx_collection.specs.Lawful.{IsLawful}
use Rattle.rx_index.specs.Index.{Indexed, is_key_of, Holds, Replaces}
use Rattle.rx_index.specs.Position.{id_of}
use Rattle.rx_observe.proofs.Fresh.{is_collection_for}

-- some documents are held, and the others are to come
pub record IsTaking (documents : Documents) (left : List Stored) (i : Indexed) : Type 0 where
  pub taken : Documents
  pub rest : Documents
  pub all : taken ++ rest ≡ documents
  pub left_are : left ≡ values_of rest
  pub held : Holds i taken

-- what an index holds goes by what is found of each name
held_found : (i : Indexed) (these those : Documents)
    → ((name : List ℕ) → named these name ≡ named those name) → Holds i these → Holds i those
held_found i these those same held =
    λ k always. held k always ∙ ap (λ d. is_key_of i.fields d k) (same (id_of k))

-- nothing is left: all are held
end_taken : (i : Indexed) (taken rest documents : Documents) → taken ++ rest ≡ documents
    → [] ≡ values_of rest → Holds i taken → Holds i documents
end_taken i taken [] documents all none held =
    held_found i taken documents (λ name. ap (λ ds. named ds name) (sym (no_more taken) ∙ all)) held
  where
    no_more : (ds : Documents) → ds ++ [] ≡ ds
    no_more [] = refl
    no_more (d ∷ ds) = ap (λ es. d ∷ es) (no_more ds)
end_taken i taken (e ∷ rest) documents all none held = cc

pub all_taken : (documents : Documents) (i : Indexed) → IsTaking documents [] i → Holds i documents
all_taken documents i t = end_taken i t.taken t.rest documents t.all t.left_are t.held

-- what holds of all keys holds of one in the midst
key_within : (P : List ℕ → Type 0) (ds : Documents) (e : List ℕ × Stored) (more : Documents)
    → AllByRecursion P (keys_of (ds ++ e ∷ more)) → P e.0
key_within P [] e more all = all.0
key_within P (d ∷ ds) e more all = key_within P ds e more all.1

-- among rising names none is named before
none_before : (ds : Documents) (e : List ℕ × Stored) (more : Documents)
    → AreRising (ds ++ e ∷ more) → named ds e.0 ≡ None
unfolding IsStrictlySortedBy
none_before [] e more rising = refl
none_before (d ∷ ds) e more rising =
    let above = key_within (λ k. text_cmp d.0 k ≡ Less) ds e more rising.0 in
    ap (λ b. cond b (Some d.1) (named ds e.0)) (above_other e.0 d.0 above)
    ∙ none_before ds e more rising.1

-- a new name goes to the end
put_named-new : (ds : Documents) (k : List ℕ) (d : Stored) → named ds k ≡ None
    → put_named ds k d ≡ ds ++ (k, d) ∷ []
put_named-new [] k d none = refl
put_named-new (e ∷ es) k d none =
    elim (bytes_eq k e.0) as (λ b. cond b (Some e.1) (named es k) ≡ None
    → cond b ((e.0, d) ∷ es) (e ∷ put_named es k d) ≡ e ∷ (es ++ (k, d) ∷ [])) [
      | true ↦ (λ found. cc)
      | false ↦ (λ other. ap (λ ds. e ∷ ds) (put_named-new es k d other))
    ] none

-- put in order, it is found as it is at the end
found_alike : (ds : Documents) (k : List ℕ) (d : Stored) → named ds k ≡ None
    → (name : List ℕ) → named (put_in_order ds k d) name ≡ named (ds ++ (k, d) ∷ []) name
found_alike ds k d none name =
    named-put_in_order ds k name d ∙ sym (named-put_named ds k name d)
    ∙ ap (λ es. named es name) (put_named-new ds k d none)

-- the first of those to come
record IsFirst (d : Stored) (left : List Stored) (rest : Documents) : Type 0 where
  key : List ℕ
  more : Documents
  split : rest ≡ (key, d) ∷ more
  left_are : left ≡ values_of more

first_of_rest : (d : Stored) (left : List Stored) (rest : Documents)
    → d ∷ left ≡ values_of rest → IsFirst d left rest
first_of_rest d left [] is = cc
first_of_rest d left (e ∷ rest) is =
    let same : d ≡ e.1 = cc in
    record {
      key = e.0;
      more = rest;
      split = λ k. (e.0, sym same k) ∷ rest;
      left_are = cc;
    }

module _ (c : Held) (lawful : IsLawful c) (d : Stored) (left : List Stored) (i : Indexed)
    (t : IsTaking c.documents (d ∷ left) i) where
  collection : IsCollection c.schema.primary c.documents
  collection = is_collection_for c.schema.primary c refl lawful

  first : IsFirst d left t.rest
  first = first_of_rest d left t.rest t.left_are

  parts : t.taken ++ (first.key, d) ∷ first.more ≡ c.documents
  parts = ap (λ ds. t.taken ++ ds) (sym first.split) ∙ t.all

  same_key : d.state.key ≡ first.key
  same_key =
      all_at (λ e. e.1.state.key ≡ e.0) t.taken (first.key, d) first.more
      (subst (AllByRecursion (λ e. e.1.state.key ≡ e.0)) (sym parts) collection.keyed)

  is_new : named t.taken d.state.key ≡ None
  is_new =
      ap (named t.taken) same_key
      ∙ none_before t.taken (first.key, d) first.more
      (subst AreRising (sym parts) collection.rising)

  replaces : Replaces i t.taken None d
  replaces = record { held = t.held; old_one = is_new; keyed = tt }

  -- the next one is taken
  pub takes : (now : Indexed)
      → ((ds : Documents) → Replaces i ds None d → Holds now (put_in_order ds d.state.key d))
      → IsTaking c.documents left now
  takes now put =
      let held = put t.taken replaces in
      record {
        taken = t.taken ++ (d.state.key, d) ∷ [];
        rest = first.more;
        all = append_assoc t.taken ((d.state.key, d) ∷ []) first.more
            ∙ ap (λ k. t.taken ++ (k, d) ∷ first.more) same_key ∙ parts;
        left_are = first.left_are;
        held = held_found now (put_in_order t.taken d.state.key d)
            (t.taken ++ (d.state.key, d) ∷ []) (found_alike t.taken d.state.key d is_new) held;
      }
