-- What a fork writes when it takes a reply.
use Rattle.std.proofs.Common.{◌≡◌, ◌⊎◌, ◌∙◌, ℕ, ◌<◌, Bool, true, false, cond, ◌||◌, List, [], ◌∷◌, map, length, Option, Some, None, is_some, option_map, refl, sym, ap, subst, inl, inr, arith, true≢false}
use Rattle.std.proofs.lemmas.Bool.{or_right}
use Rattle.std.specs.Cmp.Derive.{both_true}
use Rattle.std.specs.List.{AllByRecursion, list_all}
use Rattle.std.specs.List.Sorted.{IsStrictlySortedBy}
use Rattle.std.specs.Map.{keys_of, values_of}
use Rattle.std.specs.Option.{option_map_or}
use Rattle.std.specs.Str.{bytes_eq}
use Rattle.rx_value.specs.Named.{named}
use Rattle.rx_value.specs.Order.{text_cmp}
use Rattle.rx_value.specs.declared.state.State.{State}
use Rattle.rx_value.proofs.Bytes.{bytes_itself, bytes_same}
use Rattle.rx_value.proofs.Outcomes.{some_same, not_none}
use Rattle.rx_collection.specs.Commit.{by_key, row_of, rows_of, with_rows}
use Rattle.rx_collection.specs.Held.{Held}
use Rattle.rx_collection.specs.Lawful.{IsLawful}
use Rattle.rx_collection.specs.Time.{stamp}
use Rattle.rx_collection.proofs.Commits.{stamped}
use Rattle.rx_collection.proofs.Named.{all_put}
use Rattle.rx_collection.proofs.Rows.{by_key-rising}
use Rattle.rx_replication.specs.Member.{Member}
use Rattle.rx_replication.specs.Throughout.{AllPass}
use Rattle.rx_replication.specs.Write.{write}
use Rattle.rx_replication.proofs.Commits.{IsAmong, IsOld, IsNew, Wrote, by_key-among}
use Rattle.rx_replication.proofs.Lists.{all_each}
use Rattle.rx_replication.proofs.Sides.{Holds}
use Rattle.rx_fork.specs.Valid.{is_valid}
use Rattle.rx_record.specs.Content.{rows}
use Rattle.rx_record.specs.Rows.{state_key}
use Rattle.rx_record.specs.Writable.{KeysRise, StatesRise}
use Rattle.rx_record.specs.declared.record.RowOut.{RowOut}
use Rattle.rx_world.specs.Commit.{out_of}
use Rattle.rx_world.specs.Step.{IsValidState, takes, takes_rows, has_key, is_held_with, written_to}
use Rattle.rx_world.specs.World.{World}
use Rattle.rx_world.proofs.Commits.{IsFit, fit_at}
use Rattle.rx_sync.specs.Taking.{write_time}
use Rattle.rx_sync.proofs.Masters.{written-out}

-- ---- states by key

abbrev AreKeyed : List (List ℕ × State) → Type 0
AreKeyed es = AllByRecursion (λ e. e.1.key ≡ e.0) es

by_key-keyed : (ss : List State) → AreKeyed (by_key ss)
by_key-keyed [] = tt
by_key-keyed (s ∷ ss) = all_put (λ k t. t.key ≡ k) (by_key ss) s.key s refl (by_key-keyed ss)

keys-values : (es : List (List ℕ × State)) → AreKeyed es → map state_key (values_of es) ≡ keys_of es
keys-values [] keyed = refl
keys-values (e ∷ es) keyed =
    ap (λ (k : List ℕ). k ∷ map state_key (values_of es)) keyed.0
    ∙ ap (λ (ks : List (List ℕ)). e.0 ∷ ks) (keys-values es keyed.1)

-- states by key rise
pub states_rise : (ss : List State) → StatesRise (values_of (by_key ss))
states_rise ss =
    subst (IsStrictlySortedBy text_cmp) (sym (keys-values (by_key ss) (by_key-keyed ss)))
    (by_key-rising ss)

-- ---- rows of a commit

-- the rows of states as a record has them
abbrev pub outs_of : Held → ℕ → List State → List RowOut
outs_of c lwt ss = map out_of (rows_of c ss lwt)

both_keys : (k : List ℕ) (s : State) (e : List ℕ) → bytes_eq k e ≡ true → s.key ≡ e
    → bytes_eq s.key k ≡ true
both_keys k s e is same =
    ap (λ (z : List ℕ). bytes_eq s.key z) (bytes_same k e is ∙ sym same) ∙ bytes_itself s.key

-- one of them has the key that a state by key has
has_by : (c : Held) (lwt : ℕ) (es : List (List ℕ × State)) (k : List ℕ) (s : State) → AreKeyed es
    → named es k ≡ Some s → has_key k (map out_of (map (row_of c lwt) (values_of es))) ≡ true
has_by c lwt [] k s keyed at = not_none at
has_by c lwt (e ∷ es) k s keyed at =
    let rest = has_key k (map out_of (map (row_of c lwt) (values_of es))) in
    elim (bytes_eq k e.0) as (λ b. bytes_eq k e.0 ≡ b → cond b (Some e.1) (named es k) ≡ Some s
    → (bytes_eq e.1.key k || rest) ≡ true) [
      | true ↦ (λ is here. ap (λ (b : Bool). b || rest) (both_keys k e.1 e.0 is keyed.0))
      | false ↦ (λ is there.
          or_right (bytes_eq e.1.key k) rest (has_by c lwt es k s keyed.1 there))
    ] refl at

has_among : (c : Held) (lwt : ℕ) (ss : List State) (s : State) (o : Option State) → Member s ss
    → named (by_key ss) s.key ≡ o → IsAmong s.key ss o → has_key s.key (outs_of c lwt ss) ≡ true
has_among c lwt ss s None m at among = absurd (among.none refl s m refl)
has_among c lwt ss s (Some t) m at among =
    has_by c lwt (by_key ss) s.key t (by_key-keyed ss) at

-- ---- what is written

-- the fork with rows, which it takes at that time
pub record WritesRows (c : Held) (ss : List State) (now lwt : ℕ) : Type 0 where
  pub new : Held
  pub wrote : write c ss now ≡ Some new
  pub is : written_to lwt (outs_of c lwt ss) c ≡ new
  pub takes_them : takes_rows lwt (outs_of c lwt ss) c ≡ true
  pub rise : KeysRise (outs_of c lwt ss)

taken_some : (c : Held) (lwt : ℕ) (written : List RowOut) → takes lwt written c ≡ true
    → takes_rows lwt written c ≡ true
taken_some c lwt [] is = absurd (true≢false (sym is))
taken_some c lwt (row ∷ written) is = is

writes_some : (w : World) (c : Held) (s : State) (ss : List State) (now lwt : ℕ) → IsLawful c
    → named w.collections c.name ≡ Some c → AllByRecursion (IsValidState c.schema) (s ∷ ss)
    → stamp c.documents now ≡ Some lwt → WritesRows c (s ∷ ss) now lwt
writes_some w c s ss now lwt lawful held valid at =
    let some : 0 < length (s ∷ ss) = omega arith in
    let outs = outs_of c lwt (s ∷ ss) in
    let fit : IsFit c (rows c.name lwt outs) =
    fit_at c (s ∷ ss) lwt (stamped c now lwt lawful at) some valid in
    record {
      new = with_rows c (rows_of c (s ∷ ss) lwt);
      wrote = ap (option_map (λ lwt. with_rows c (rows_of c (s ∷ ss) lwt))) at;
      is = written-out c lwt (s ∷ ss);
      takes_them = taken_some c lwt outs
          (sym (ap (λ (o : Option Held). option_map_or (takes lwt outs) o false) held)
          ∙ fit.legal w held);
      rise = fit.ordered;
    }

pub writes_rows : (w : World) (c : Held) (ss : List State) (now lwt : ℕ) → IsLawful c
    → named w.collections c.name ≡ Some c → AllByRecursion (IsValidState c.schema) ss
    → write_time now c ss ≡ Some lwt → WritesRows c ss now lwt
unfolding IsStrictlySortedBy
writes_rows w c [] now lwt lawful held valid at = record {
  new = c;
  wrote = refl;
  is = refl;
  takes_them = subst (λ (n : ℕ). takes_rows n [] c ≡ true) (some_same at) refl;
  rise = tt;
}
writes_rows w c (s ∷ ss) now lwt lawful held valid at =
    writes_some w c s ss now lwt lawful held valid at

-- ---- what is known then

held_then : (c new : Held) (ss : List State) (lwt : ℕ) (k : List ℕ) (b : Bool)
    → is_some (named c.documents k) ≡ b → Holds new.documents k
    → IsOld c.documents new.documents ss k ⊎ IsNew c.documents new.documents ss k
    → (b || has_key k (outs_of c lwt ss)) ≡ true
held_then c new ss lwt k b is h (inl o) =
    ap (λ (b : Bool). b || has_key k (outs_of c lwt ss))
    (sym is ∙ ap is_some (sym o.same) ∙ ap is_some h.1)
held_then c new ss lwt k b is h (inr n) =
    or_right b (has_key k (outs_of c lwt ss))
    (subst (λ (k : List ℕ). has_key k (outs_of c lwt ss) ≡ true) n.key
    (has_among c lwt ss n.doc.state (named (by_key ss) n.doc.state.key) n.member refl
    (by_key-among ss n.doc.state.key)))

all_hold : (test : State → Bool) (ss : List State) → AllByRecursion (λ s. test s ≡ true) ss
    → list_all test ss ≡ true
all_hold test [] all = refl
all_hold test (s ∷ ss) all = both_true all.0 (all_hold test ss all.1)

-- each is valid, and held by the fork with the rows
pub known_held : (c new : Held) (ss known : List State) (lwt : ℕ)
    → Wrote c.documents ss new.documents
    → AllPass (is_valid c.schema) known
    → ((s : State) → Member s known → Holds new.documents s.key)
    → list_all (is_held_with c (outs_of c lwt ss)) known ≡ true
known_held c new ss known lwt w valid held =
    all_hold (is_held_with c (outs_of c lwt ss)) known
    (all_each (λ s. is_held_with c (outs_of c lwt ss) s ≡ true) known (λ s m.
    both_true (valid s m)
    (held_then c new ss lwt s.key (is_some (named c.documents s.key)) refl (held s m)
    (w.at s.key))))
