-- The pending documents are those above the checkpoint.
use Rattle.std.proofs.Common.{◌≡◌, ℕ, zero, ◌-◌, suc, true, cond, List, [], ◌∷◌, ◌++◌, length, map, filter, take, append-nil, Option, refl, sym, ap, ◌∙◌, arith}
use Rattle.rx_value.proofs.Lists.{moved}
use Rattle.rx_document.specs.declared.place.Place.{Place}
use Rattle.rx_document.specs.declared.stored.Stored.{Stored}
use Rattle.rx_collection.specs.Held.{Held}
use Rattle.rx_collection.specs.Lawful.{IsLawful}
use Rattle.rx_collection.specs.Since.{since}
use Rattle.rx_wire.specs.declared.message.PushRow.{PushRow}
use Rattle.rx_replication.specs.Known.{KnownStates, is_pending, pending, NonePendingBelow}
use Rattle.rx_replication.specs.Request.{push_row, push_or_pull, ask_of}
use Rattle.rx_replication.proofs.Commits.{lawful-by_key}
use Rattle.rx_replication.proofs.Distinct.{RowKeysDiffer, rows_differ}
use Rattle.rx_replication.proofs.Walk.{pending-since}
use Rattle.rx_fork.specs.Asked.{HasRowsApart}
use Rattle.rx_fork.proofs.Items.{take_nil}

-- those of the walk that are pending are the pending ones
pub pending_above : (c : Held) (known : KnownStates) (up : Option Place) → IsLawful c
    → NonePendingBelow c.documents known up
    → filter (is_pending known) (since c.documents up (length c.documents))
    ≡ pending c.documents known
pending_above c known up lawful none =
    sym (pending-since c.documents known up (length c.documents) (lawful-by_key c lawful) none
    (omega arith))

-- ---- rows of pending documents

-- with one more document, where there is room and it is pending
pub pending_step : (known : KnownStates) (left : ℕ) (d : Stored) (it rest : List Stored)
    (rows new all : List PushRow) → it ≡ d ∷ rest → is_pending known d ≡ true → (left ≡ 0 → ⊥)
    → new ≡ rows ++ push_row known d ∷ []
    → rows ++ map (push_row known) (take left (filter (is_pending known) it)) ≡ all
    → new ++ map (push_row known) (take (left - 1) (filter (is_pending known) rest)) ≡ all
pending_step known zero d it rest rows new all is passes room added so = absurd (room refl)
pending_step known (suc k) d it rest rows new all is passes room added so =
    let p = is_pending known in
    let less : suc k - 1 ≡ k = omega arith in
    rw less
    (moved rows new (map (push_row known) (take k (filter p rest)))
    (map (push_row known) (take (suc k) (filter p it))) all (push_row known d) added
    (ap (λ (ds : List Stored). map (push_row known) (take (suc k) (filter p ds))) is
    ∙ ap (λ b. map (push_row known) (take (suc k) (cond b (d ∷ filter p rest) (filter p rest))))
    passes) so)

-- at the end of the walk
pub pending_ended : (known : KnownStates) (left : ℕ) (it : List Stored) (rows all : List PushRow)
    → it ≡ [] → rows ++ map (push_row known) (take left (filter (is_pending known) it)) ≡ all
    → rows ≡ all
pending_ended known left it rows all none so =
    sym (append-nil rows)
    ∙ ap (λ (ds : List Stored). rows ++ map (push_row known) ds) (sym (take_nil left))
    ∙ ap (λ (ds : List Stored).
    rows ++ map (push_row known) (take left (filter (is_pending known) ds)))
    (sym none) ∙ so

-- where there is no room
pub pending_full : (known : KnownStates) (left : ℕ) (it : List Stored) (rows all : List PushRow)
    → left ≡ 0 → rows ++ map (push_row known) (take left (filter (is_pending known) it)) ≡ all
    → rows ≡ all
pending_full known left it rows all full so =
    sym (append-nil rows)
    ∙ ap (λ n. rows ++ map (push_row known) (take n (filter (is_pending known) it))) (sym full) ∙ so

-- ---- their keys differ

asked_apart : (rows : List PushRow) (down : Option Place) (n : ℕ) → RowKeysDiffer rows
    → HasRowsApart (push_or_pull rows down n)
asked_apart [] down n apart = tt
asked_apart (row ∷ rows) down n apart = apart

-- no key comes twice in a request
pub ask_apart : (c : Held) (known : KnownStates) (down : Option Place) (n : ℕ) → IsLawful c
    → HasRowsApart (ask_of c.documents known down n)
ask_apart c known down n lawful =
    asked_apart (map (push_row known) (take n (pending c.documents known))) down n
    (rows_differ c.documents known n (lawful-by_key c lawful))
