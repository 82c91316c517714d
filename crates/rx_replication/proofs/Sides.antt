-- What a write keeps of a side, and of what is answered.
use Rattle.std.proofs.Common.{◌≡◌, ℕ, ◌<◌, ◌≤◌, true, false, not, List, Option, Some, None, refl, sym, ap, ◌∙◌, ◌⊎◌, inl, inr, subst, arith, true≢false}
use Rattle.rx_value.specs.Named.{named}
use Rattle.rx_value.specs.declared.state.State.{State}
use Rattle.rx_value.proofs.Outcomes.{some_same}
use Rattle.rx_document.specs.Documents.{Documents}
use Rattle.rx_document.specs.declared.place.Place.{Place}
use Rattle.rx_document.specs.declared.stored.Stored.{Stored}
use Rattle.rx_collection.specs.Since.{place_of}
use Rattle.rx_collection.specs.Time.{last_lwt}
use Rattle.rx_collection.proofs.Last.{within_last}
use Rattle.rx_wire.specs.declared.message.AskKind.{AskKind}
use Rattle.rx_wire.specs.declared.message.AskKind.TheVariants.{Push, Pull}
use Rattle.rx_wire.specs.declared.message.Body.{Body}
use Rattle.rx_wire.specs.declared.message.Body.TheVariants.{Conflicts, Docs}
use Rattle.rx_replication.specs.Answered.{IsAnswered, IsThere}
use Rattle.rx_replication.specs.Known.{KnownStates, NonePendingBelow}
use Rattle.rx_replication.specs.Sound.{IsSoundSide, AreKnownUpTo, Reach}
use Rattle.rx_replication.specs.Write.{is_up_to, AreByKey}
use Rattle.rx_replication.proofs.Commits.{IsOld, IsNew, Wrote, key_at}
use Rattle.rx_replication.proofs.Orders.{up_to_later, up_to_earlier, up_to-lwt, is_state-itself}

-- the key is held
abbrev pub Holds : Documents → List ℕ → Type 0
Holds documents k = (d : Stored) × (named documents k ≡ Some d)

-- what is written is above each checkpoint that was reached
pub above_reached : (documents : Documents) (p : Option Place) (d : Stored) → Reach documents p
    → last_lwt documents < d.lwt → is_up_to (place_of d) p ≡ false
above_reached documents None d r h = refl
above_reached documents (Some p) d r h =
    let a : p.lwt ≤ r.1.lwt = up_to-lwt p (place_of r.1) r.3 in
    let b : r.1.lwt ≤ last_lwt documents = within_last documents r.0 r.1 r.2 in
    up_to_earlier (place_of d) p (omega arith)

-- where the documents up to a checkpoint are known, none of them is pending
pub known_up_to-none_pending : (documents : Documents) (known : KnownStates) (up : Option Place)
    → AreByKey documents → AreKnownUpTo documents known up → NonePendingBelow documents known up
known_up_to-none_pending documents known up by_key settled k d at h =
    ap not
    (is_state-itself (named known d.state.key) d.state
    (ap (named known) (key_at documents k d by_key at) ∙ settled k d at h))

-- the key is held after a write, as it was or later
pub record IsHeldThen (old new : Documents) (k : List ℕ) (d : Stored) : Type 0 where
  pub doc : Stored
  pub held : named new k ≡ Some doc
  pub is : (doc ≡ d) ⊎ (last_lwt old < doc.lwt)

module _ (old : Documents) (ss : List State) (new : Documents) (w : Wrote old ss new) where
  held_by : (k : List ℕ) (d : Stored) → named old k ≡ Some d
      → IsOld old new ss k ⊎ IsNew old new ss k → IsHeldThen old new k d
  held_by k d at (inl o) = record { doc = d; held = o.same ∙ at; is = inl refl }
  held_by k d at (inr n) = record { doc = n.doc; held = n.held; is = inr n.later }

  pub held_after : (k : List ℕ) (d : Stored) → named old k ≡ Some d → IsHeldThen old new k d
  held_after k d at = held_by k d at (w.at k)

  pub holds_after : (k : List ℕ) → Holds old k → Holds new k
  holds_after k h = let r = held_after k h.0 h.1 in (r.doc, r.held)

  reach_by : (p : Place) (k : List ℕ) (d : Stored) → named old k ≡ Some d
      → is_up_to p (Some (place_of d)) ≡ true → IsHeldThen old new k d → Reach new (Some p)
  reach_by p k d at h r = (
    k,
    r.doc,
    r.held,
    elim r.is [
      | inl is ↦ subst (λ (z : Stored). is_up_to p (Some (place_of z)) ≡ true) (sym is) h
      | inr later ↦ let a : p.lwt ≤ d.lwt = up_to-lwt p (place_of d) h in
          let b : d.lwt ≤ last_lwt old = within_last old k d at in
          up_to_later p (place_of r.doc) (omega arith)
    ],
  )

  pub reach_after : (p : Option Place) → Reach old p → Reach new p
  reach_after None r = tt
  reach_after (Some p) r = reach_by p r.0 r.1 r.2 r.3 (held_after r.0 r.1 r.2)

  old_by : (p : Option Place) (k : List ℕ) (d : Stored) → Reach old p → named new k ≡ Some d
      → is_up_to (place_of d) p ≡ true → IsOld old new ss k ⊎ IsNew old new ss k
      → named old k ≡ Some d
  old_by p k d r at h (inl o) = sym o.same ∙ at
  old_by p k d r at h (inr n) =
      let is : n.doc ≡ d = some_same (sym n.held ∙ at) in
      absurd (true≢false (sym h ∙ ap (λ (z : Stored). is_up_to (place_of z) p) (sym is)
      ∙ above_reached old p n.doc r n.later))

  -- up to a checkpoint that was reached nothing is new
  pub old_below : (p : Option Place) (k : List ℕ) (d : Stored) → Reach old p
      → named new k ≡ Some d → is_up_to (place_of d) p ≡ true → named old k ≡ Some d
  old_below p k d r at h = old_by p k d r at h (w.at k)

  -- a write on a side keeps it sound
  pub side_after : (known : KnownStates) (p : Option Place) → IsSoundSide old known p
      → IsSoundSide new known p
  side_after known p s = record {
    settled = λ k d at h. s.settled k d (old_below p k d s.reached at h) h;
    holds = λ k t at. holds_after k (s.holds k t at);
    reached = reach_after p s.reached;
  }

  -- ---- what is answered

  there_by : (down : Option Place) (s : State) (d : Stored) → Reach old down
      → (d.state ≡ s) ⊎ (is_up_to (place_of d) down ≡ false) → IsHeldThen old new s.key d
      → IsThere new down s
  there_by down s d r h x = (
    x.doc,
    x.held,
    elim x.is [
      | inl is ↦
          subst (λ (z : Stored). (z.state ≡ s) ⊎ (is_up_to (place_of z) down ≡ false)) (sym is) h
      | inr later ↦ inr (above_reached old down x.doc r later)
    ],
  )

  there_after : (down : Option Place) (s : State) → Reach old down → IsThere old down s
      → IsThere new down s
  there_after down s r x = there_by down s x.0 r x.2 (held_after s.key x.0 x.1)

  above_by : (down : Option Place) (k : List ℕ) (d : Stored) → Reach old down
      → is_up_to (place_of d) down ≡ false → IsHeldThen old new k d
      → (e : Stored) × (named new k ≡ Some e) × (is_up_to (place_of e) down ≡ false)
  above_by down k d r h x = (
    x.doc,
    x.held,
    elim x.is [
      | inl is ↦ subst (λ (z : Stored). is_up_to (place_of z) down ≡ false) (sym is) h
      | inr later ↦ above_reached old down x.doc r later
    ],
  )

  -- a write on the master keeps replies answered
  pub answered_after : (down : Option Place) (ask : AskKind) (body : Body) → Reach old down
      → IsAnswered old down ask body → IsAnswered new down ask body
  answered_after down (Push rows) (Conflicts cs) r h = record {
    held = λ row m. holds_after row.new.key (h.held row m);
    taken = λ row m none. there_after down row.new r (h.taken row m none);
    met = λ c m. there_after down c r (h.met c m);
  }
  answered_after down (Pull place batch) (Docs ss to) r h = record {
    held = λ s m. let x = h.held s m in above_by down s.key x.0 r x.2 (held_after s.key x.0 x.1);
    whole = λ k d at a b. h.whole k d (old_below to k d h.reached at b) a b;
    reached = reach_after to h.reached;
    risen = h.risen;
  }
  answered_after down (Push rows) (Docs ss to) r h = absurd h
  answered_after down (Pull place batch) (Conflicts cs) r h = absurd h
