-- What a write and a learning leave at a key.
use Rattle.std.proofs.Common.{◌≡◌, ◌≢◌, ℕ, ◌+◌, ◌<◌, min, max, ◌==◌, Bool, true, false, cond, List, [], ◌∷◌, map, Option, Some, None, option_map, refl, sym, ap, ◌∙◌, ◌⊎◌, inl, inr, subst, arith, true≢false}
use Rattle.std.proofs.Math.Nat.{le-max_right}
use Rattle.std.specs.List.{AllByRecursion}
use Rattle.std.specs.List.Sorted.{IsStrictlySortedBy}
use Rattle.std.specs.Map.{values_of}
use Rattle.std.specs.Str.{bytes_eq}
use Rattle.rx_value.specs.Named.{named, put_in_order, AreRising}
use Rattle.rx_value.specs.declared.state.State.{State}
use Rattle.rx_value.proofs.Named.{named-put_in_order, put_in_order-rising}
use Rattle.rx_value.proofs.Bytes.{bytes_itself, bytes_same}
use Rattle.rx_value.proofs.Outcomes.{some_same, not_none}
use Rattle.rx_document.specs.Documents.{Documents}
use Rattle.rx_document.specs.declared.stored.Stored.{Stored}
use Rattle.rx_collection.specs.Commit.{by_key, row_of, rows_of, with_row, with_rows}
use Rattle.rx_collection.specs.Held.{Held}
use Rattle.rx_collection.specs.Lawful.{IsLawful, IsHeldAt}
use Rattle.rx_collection.specs.Time.{last_lwt, most_lwt, stamp}
use Rattle.rx_collection.proofs.Last.{within_last}
use Rattle.rx_collection.proofs.Named.{all_put, at_name, first_alone}
use Rattle.rx_collection.proofs.Rows.{by_key-rising}
use Rattle.rx_replication.specs.Known.{KnownStates, with_learnt}
use Rattle.rx_replication.specs.Member.{Member}
use Rattle.rx_replication.specs.Write.{write, AreByKey}

-- ---- documents by key

-- those of a collection are
are_keyed : (primary : List ℕ) (es : Documents)
    → AllByRecursion (λ e. IsHeldAt primary e.0 e.1) es
    → AllByRecursion (λ e. e.1.state.key ≡ e.0) es
are_keyed primary [] all = tt
are_keyed primary (e ∷ es) all = (all.0.keyed, are_keyed primary es all.1)

pub lawful-by_key : (c : Held) → IsLawful c → AreByKey c.documents
lawful-by_key c lawful = record {
  rising = lawful.rising;
  keyed = are_keyed c.schema.primary c.documents lawful.each;
}

-- each carries the key that it is found by
pub key_at : (documents : Documents) (k : List ℕ) (d : Stored) → AreByKey documents
    → named documents k ≡ Some d → d.state.key ≡ k
key_at documents k d by_key at = at_name (λ k d. d.state.key ≡ k) documents k d by_key.keyed at

-- ---- rows

-- what was written, or else what was there
abbrev pub new_or : Option Stored → Option Stored → Option Stored
new_or None old = old
new_or (Some d) old = Some d

module _ (first : Held) (lwt : ℕ) where
  row_step : (b : Bool) (s : State) (o : Option State) (old : Option Stored)
      → (b ≡ true → o ≡ None)
      → new_or (option_map (row_of first lwt) o) (cond b (Some (row_of first lwt s)) old)
      ≡ new_or (option_map (row_of first lwt) (cond b (Some s) o)) old
  row_step true s o old alone =
      ap (λ (o : Option State).
      new_or (option_map (row_of first lwt) o) (Some (row_of first lwt s))) (alone refl)
  row_step false s o old alone = refl

  -- rows by rising key are found at their keys
  rows_at : (c : Held) (es : List (List ℕ × State)) → AreRising es
      → AllByRecursion (λ e. e.1.key ≡ e.0) es → (k : List ℕ)
      → named (with_rows c (map (row_of first lwt) (values_of es))).documents k
      ≡ new_or (option_map (row_of first lwt) (named es k)) (named c.documents k)
  unfolding IsStrictlySortedBy
  rows_at c [] rising keyed k = refl
  rows_at c (e ∷ es) rising keyed k =
      let row : Stored = row_of first lwt e.1 in
      rows_at (with_row c row) es rising.1 keyed.1 k
      ∙ ap (new_or (option_map (row_of first lwt) (named es k)))
      (named-put_in_order c.documents e.1.key k row
      ∙ ap (λ (l : List ℕ). cond (bytes_eq k l) (Some row) (named c.documents k)) keyed.0)
      ∙ row_step (bytes_eq k e.0) e.1 (named es k) (named c.documents k)
      (λ h. ap (named es) (bytes_same k e.0 h) ∙ first_alone e es rising)

-- states by key carry their keys
by_key-keyed : (ss : List State) → AllByRecursion (λ e. e.1.key ≡ e.0) (by_key ss)
by_key-keyed [] = tt
by_key-keyed (s ∷ ss) =
    all_put (λ k t. t.key ≡ k) (by_key ss) s.key s refl (by_key-keyed ss)

-- a commit leaves the row of a key's state, or what was there
pub commit_at : (c : Held) (ss : List State) (lwt : ℕ) (k : List ℕ)
    → named (with_rows c (rows_of c ss lwt)).documents k
    ≡ new_or (option_map (row_of c lwt) (named (by_key ss) k)) (named c.documents k)
commit_at c ss lwt k =
    rows_at c lwt c (by_key ss) (by_key-rising ss) (by_key-keyed ss) k

-- and keeps the documents by key
with_rows-by_key : (c : Held) (rows : List Stored) → AreByKey c.documents
    → AreByKey (with_rows c rows).documents
with_rows-by_key c [] by_key = by_key
with_rows-by_key c (row ∷ rows) by_key =
    with_rows-by_key (with_row c row) rows (record {
      rising = put_in_order-rising c.documents row.state.key row by_key.rising;
      keyed = all_put (λ k d. d.state.key ≡ k) c.documents row.state.key row refl by_key.keyed;
    })

-- ---- the states that are written

-- the state of a key is one of them, or none has that key
pub record IsAmong (k : List ℕ) (ss : List State) (o : Option State) : Type 0 where
  pub none : o ≡ None → (s : State) → Member s ss → s.key ≢ k
  pub some : (s : State) → o ≡ Some s → Member s ss × (s.key ≡ k)

pub by_key-among : (ss : List State) (k : List ℕ) → IsAmong k ss (named (by_key ss) k)
by_key-among [] k = record { none = λ e s h. absurd h; some = λ s e. not_none e }
by_key-among (s ∷ ss) k =
    let rest = by_key-among ss k in
    subst (IsAmong k (s ∷ ss)) (sym (named-put_in_order (by_key ss) s.key k s))
    (elim (bytes_eq k s.key) as (λ b. bytes_eq k s.key ≡ b
    → IsAmong k (s ∷ ss) (cond b (Some s) (named (by_key ss) k))) [
      | true ↦ (λ h. record {
        none = λ e. not_none (sym e);
        some = λ t e. (
          inl (sym (some_same e)),
          ap (λ (u : State). u.key) (sym (some_same e))
              ∙ sym (bytes_same k s.key h),
        );
      })
      | false ↦ (λ h. record {
        none = λ e t. elim [
          | inl is ↦ (λ same. true≢false
              (sym (bytes_itself k)
              ∙ ap (bytes_eq k) (sym same ∙ ap (λ (u : State). u.key) is) ∙ h))
          | inr m ↦ rest.none e t m
        ];
        some = λ t e. (inr (rest.some t e).0, (rest.some t e).1);
      })
    ] refl)

-- no state that is written has the key, and what was there stays
pub record IsOld {X : Type 0} (old new : List (List ℕ × X)) (ss : List State) (k : List ℕ)
    : Type 0 where
  pub absent : (s : State) → Member s ss → s.key ≢ k
  pub same : named new k ≡ named old k

-- a state that is written has the key, and stands there, later than all before
pub record IsNew (old new : Documents) (ss : List State) (k : List ℕ) : Type 0 where
  pub doc : Stored
  pub member : Member doc.state ss
  pub key : doc.state.key ≡ k
  pub held : named new k ≡ Some doc
  pub later : last_lwt old < doc.lwt

pub record IsNewState (new : KnownStates) (ss : List State) (k : List ℕ) : Type 0 where
  pub state : State
  pub member : Member state ss
  pub key : state.key ≡ k
  pub held : named new k ≡ Some state

-- what a write makes of documents
pub record Wrote (old : Documents) (ss : List State) (new : Documents) : Type 0 where
  pub at : (k : List ℕ) → IsOld old new ss k ⊎ IsNew old new ss k
  pub rises : (last_lwt old < last_lwt new) ⊎ (new ≡ old)
  pub by_key : AreByKey old → AreByKey new

-- ---- learning

learn_step : (known : KnownStates) (s : State) (ss : List State) (k : List ℕ) (b : Bool)
    → bytes_eq k s.key ≡ b
    → IsOld (put_in_order known s.key s) (with_learnt (put_in_order known s.key s) ss) ss k
    ⊎ IsNewState (with_learnt (put_in_order known s.key s) ss) ss k
    → IsOld known (with_learnt (put_in_order known s.key s) ss) (s ∷ ss) k
    ⊎ IsNewState (with_learnt (put_in_order known s.key s) ss) (s ∷ ss) k
learn_step known s ss k b e (inr n) =
    inr (record { state = n.state; member = inr n.member; key = n.key; held = n.held })
learn_step known s ss k true e (inl o) =
    inr (record {
      state = s;
      member = inl refl;
      key = sym (bytes_same k s.key e);
      held = o.same ∙ named-put_in_order known s.key k s
          ∙ ap (λ b. cond b (Some s) (named known k)) e;
    })
learn_step known s ss k false e (inl o) =
    inl (record {
      absent = λ t. elim [
        | inl is ↦ (λ same. true≢false
            (sym (bytes_itself k) ∙ ap (bytes_eq k) (sym same ∙ ap (λ (u : State). u.key) is) ∙ e))
        | inr m ↦ o.absent t m
      ];
      same = o.same ∙ named-put_in_order known s.key k s
          ∙ ap (λ b. cond b (Some s) (named known k)) e;
    })

-- at each key a learning leaves what was known, or one of the states
pub learn_at : (known : KnownStates) (ss : List State) (k : List ℕ)
    → IsOld known (with_learnt known ss) ss k ⊎ IsNewState (with_learnt known ss) ss k
learn_at known [] k = inl (record { absent = λ s m. absurd m; same = refl })
learn_at known (s ∷ ss) k =
    learn_step known s ss k (bytes_eq k s.key) refl (learn_at (put_in_order known s.key s) ss k)

-- known states keep rising
pub learn-rising : (known : KnownStates) (ss : List State) → AreRising known
    → AreRising (with_learnt known ss)
learn-rising known [] rising = rising
learn-rising known (s ∷ ss) rising =
    learn-rising (put_in_order known s.key s) ss (put_in_order-rising known s.key s rising)

-- ---- writes

later_by : (b : Bool) (last now lwt : ℕ)
    → cond b None (Some (max (min now most_lwt) (last + 1))) ≡ Some lwt → last < lwt
later_by true last now lwt at = not_none at
later_by false last now lwt at =
    let same : max (min now most_lwt) (last + 1) ≡ lwt = some_same at in
    let low = le-max_right (min now most_lwt) (last + 1) in omega arith

-- a stamp is later than all documents
pub stamp-later : (documents : Documents) (now lwt : ℕ) → stamp documents now ≡ Some lwt
    → last_lwt documents < lwt
stamp-later documents now lwt at =
    later_by (last_lwt documents == most_lwt) (last_lwt documents) now lwt at

module _ (c : Held) (ss : List State) (lwt : ℕ) (later : last_lwt c.documents < lwt) where
  abbrev committed : Documents
  committed = (with_rows c (rows_of c ss lwt)).documents

  wrote_by : (k : List ℕ) (o : Option State) → IsAmong k ss o
      → named committed k ≡ new_or (option_map (row_of c lwt) o) (named c.documents k)
      → IsOld c.documents committed ss k ⊎ IsNew c.documents committed ss k
  wrote_by k None among at = inl (record { absent = among.none refl; same = at })
  wrote_by k (Some s) among at =
      inr (record {
        doc = row_of c lwt s;
        member = (among.some s refl).0;
        key = (among.some s refl).1;
        held = at;
        later = later;
      })

  commit_wrote-at : (k : List ℕ)
      → IsOld c.documents committed ss k ⊎ IsNew c.documents committed ss k
  commit_wrote-at k = wrote_by k (named (by_key ss) k) (by_key-among ss k) (commit_at c ss lwt k)

rises_by : (old new : Documents) (s : State) (ss : List State)
    → IsOld old new (s ∷ ss) s.key ⊎ IsNew old new (s ∷ ss) s.key → last_lwt old < last_lwt new
rises_by old new s ss (inl o) = absurd (o.absent s (inl refl) refl)
rises_by old new s ss (inr n) =
    let within = within_last new s.key n.doc n.held in let l = n.later in omega arith

-- a commit at a later time
pub commit_wrote : (c : Held) (s : State) (ss : List State) (lwt : ℕ)
    → last_lwt c.documents < lwt
    → Wrote c.documents (s ∷ ss) (with_rows c (rows_of c (s ∷ ss) lwt)).documents
commit_wrote c s ss lwt later = record {
  at = commit_wrote-at c (s ∷ ss) lwt later;
  rises = inl (rises_by c.documents (with_rows c (rows_of c (s ∷ ss) lwt)).documents s ss
      (commit_wrote-at c (s ∷ ss) lwt later s.key));
  by_key = with_rows-by_key c (rows_of c (s ∷ ss) lwt);
}

write_by : (c : Held) (s : State) (ss : List State) (new : Held) (o : Option ℕ)
    → ((lwt : ℕ) → o ≡ Some lwt → last_lwt c.documents < lwt)
    → option_map (λ lwt. with_rows c (rows_of c (s ∷ ss) lwt)) o ≡ Some new
    → Wrote c.documents (s ∷ ss) new.documents
write_by c s ss new None later e = not_none e
write_by c s ss new (Some lwt) later e =
    subst (λ (z : Held). Wrote c.documents (s ∷ ss) z.documents) (some_same e)
    (commit_wrote c s ss lwt (later lwt refl))

-- a write
pub write_wrote : (c : Held) (ss : List State) (now : ℕ) (new : Held) → write c ss now ≡ Some new
    → Wrote c.documents ss new.documents
write_wrote c [] now new e =
    subst (λ (z : Held). Wrote c.documents [] z.documents) (some_same e) (record {
      at = λ k. inl (record { absent = λ s m. absurd m; same = refl });
      rises = inr refl;
      by_key = λ b. b;
    })
write_wrote c (s ∷ ss) now new e =
    write_by c s ss new (stamp c.documents now) (stamp-later c.documents now) e
