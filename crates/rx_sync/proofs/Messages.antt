-- What is asked and answered in a world that records made.
use Rattle.std.proofs.Common.{◌≡◌, ◌⊎◌, ◌∙◌, ℕ, ◌≤◌, true, List, [], ◌∷◌, map, take, Option, Some, None, IfSome, refl, sym, ap, subst, inl, inr, arith, lt-ltb, le-leb}
use Rattle.std.specs.Cmp.Derive.{both_true}
use Rattle.rx_value.specs.Due.{◌>>=◌}
use Rattle.rx_value.specs.Named.{named}
use Rattle.rx_value.proofs.Outcomes.{some_same}
use Rattle.rx_document.specs.Documents.{Documents}
use Rattle.rx_document.specs.declared.place.Place.{Place}
use Rattle.rx_document.specs.declared.stored.Stored.{Stored}
use Rattle.rx_collection.specs.Held.{Held}
use Rattle.rx_collection.specs.Lawful.{IsLawful, IsHeldAt}
use Rattle.rx_collection.specs.Since.{place_of, since}
use Rattle.rx_collection.proofs.Named.{at_name}
use Rattle.rx_wire.specs.Lawful.{IsPlace}
use Rattle.rx_wire.specs.declared.message.AskKind.{AskKind}
use Rattle.rx_wire.specs.declared.message.AskKind.TheVariants.{Push, Pull}
use Rattle.rx_wire.specs.declared.message.PushRow.{PushRow}
use Rattle.rx_replication.specs.Answered.{IsAnswered}
use Rattle.rx_replication.specs.Known.{KnownStates, pending}
use Rattle.rx_replication.specs.Master.{body_of, last_place, master_then, writes}
use Rattle.rx_replication.specs.Member.{Member}
use Rattle.rx_replication.specs.Request.{IsCurrent, push_or_pull, push_row}
use Rattle.rx_replication.specs.Sound.{Reach}
use Rattle.rx_replication.specs.Taking.{place_or, pushed_place}
use Rattle.rx_replication.specs.Throughout.{DocumentsPass, KnownPass}
use Rattle.rx_replication.specs.Write.{AreByKey}
use Rattle.rx_replication.proofs.Commits.{lawful-by_key, write_wrote}
use Rattle.rx_replication.proofs.Distinct.{KeysDiffer, conflicts_differ, since_differ}
use Rattle.rx_replication.proofs.Handled.{push_answered, pull_answered}
use Rattle.rx_replication.proofs.Pages.{last_place_is, page_held, since-page, stands_above}
use Rattle.rx_replication.proofs.Throughout.{asked_pass, answered_pass}
use Rattle.rx_fork.specs.Asked.{asked_of, HasRowsApart}
use Rattle.rx_fork.specs.Valid.{is_valid}
use Rattle.rx_fork.specs.declared.ask.Asked.{Asked}
use Rattle.rx_fork.proofs.Walk.{ask_apart}
use Rattle.rx_record.specs.Places.{is_time}
use Rattle.rx_record.specs.Writable.{HasTime}
use Rattle.rx_world.specs.Linked.{IsLinked}
use Rattle.rx_world.specs.Valid.{AreValid}
use Rattle.rx_world.specs.World.{World}
use Rattle.rx_world.specs.declared.replication.Replication.{Replication}
use Rattle.rx_world.proofs.Grown.{documents_pass as states_pass}
use Rattle.rx_sync.specs.Asking.{asked_by, asked_in}
use Rattle.rx_sync.specs.Exchange.{answer_states}
use Rattle.rx_sync.specs.Laws.{HasTimeAt, IsDueOf, IsLawfulReply}

-- ---- documents

-- each document was written at a time
abbrev pub AreTimed : Documents → Type 0
AreTimed documents =
    (k : List ℕ) (d : Stored) → named documents k ≡ Some d → is_time d.lwt ≡ true

module _ (c : Held) (lawful : IsLawful c) where
  held_at : (k : List ℕ) (d : Stored) → named c.documents k ≡ Some d
      → IsHeldAt c.schema.primary k d
  held_at k d at =
      at_name (λ k d. IsHeldAt c.schema.primary k d) c.documents k d lawful.each at

  pub timed : AreTimed c.documents
  timed k d at =
      let h = held_at k d at in
      let first : 1 ≤ d.lwt = h.written in
      let last : d.lwt ≤ 9007199254740991 = h.in_range in
      both_true (lt-ltb 0 d.lwt (omega arith)) (le-leb d.lwt 9007199254740991 last)

  pub documents_pass : AreValid c → DocumentsPass (is_valid c.schema) c.documents
  documents_pass valid = states_pass c lawful valid

-- ---- a request

pub known_pass : (w : World) (name : List ℕ) (r : Replication) (l : IsLinked w.collections name r)
    → KnownPass (is_valid l.fork.schema) r.side.known
known_pass w name r l k s at =
    at_name (λ k s. is_valid l.fork.schema s ≡ true) r.side.known k s l.valid at

-- what a fork asks
pub asked_at : (w : World) (name : List ℕ) (n batch : ℕ) (asked : Asked) (r : Replication)
    (fork : Held) → named w.replications name ≡ Some r → named w.collections r.fork ≡ Some fork
    → asked_in w name n batch ≡ Some asked
    → asked_of fork.documents r.side w.epoch n batch ≡ asked
asked_at w name n batch asked r fork at held is =
    some_same
    (sym (ap (λ (o : Option Replication). o >>= asked_by w n batch) at
    ∙ ap (λ (o : Option Held).
    o >>= λ fork. Some (asked_of fork.documents r.side w.epoch n batch)) held)
    ∙ is)

-- is lawful, and due
pub due_of : (c : Held) (r : Replication) (epoch n batch : ℕ) → IsLawful c → AreValid c
    → KnownPass (is_valid c.schema) r.side.known → 1 ≤ batch
    → IsDueOf r c (asked_of c.documents r.side epoch n batch)
due_of c r epoch n batch lawful valid knows some = record {
  lawful = record {
    valid = asked_pass (is_valid c.schema) c.documents r.side.known r.side.down batch
        (lawful-by_key c lawful) (documents_pass c lawful valid) knows;
    apart = ask_apart c r.side.known r.side.down batch lawful;
  };
  current = λ same. (batch, some, refl);
}

-- ---- a reply

-- a push asks for anything, a pull from down, of one document at least
abbrev pub IsFromDown : Option Place → AskKind → Type 0
IsFromDown down (Push rows) = Unit {0}
IsFromDown down (Pull place batch) = (place ≡ down) × (1 ≤ batch)

from_down-by : (rows : List PushRow) (down : Option Place) (batch : ℕ) → 1 ≤ batch
    → IsFromDown down (push_or_pull rows down batch)
from_down-by [] down batch some = (refl, some)
from_down-by (row ∷ rows) down batch some = tt

pub from_down : (fork : Documents) (known : KnownStates) (down : Option Place) (ask : AskKind)
    → IsCurrent fork known down ask → IsFromDown down ask
from_down fork known down ask c =
    subst (IsFromDown down) (sym c.2)
    (from_down-by (map (push_row known) (take c.0 (pending fork known))) down c.0 c.1)

-- the reply is answered, by the master as it is after the handling
pub handled_answered : (c new : Held) (down : Option Place) (ask : AskKind) (now : ℕ)
    → AreByKey c.documents → Reach c.documents down → IsFromDown down ask
    → master_then c ask now ≡ Some new
    → IsAnswered new.documents down ask (body_of c.documents ask)
handled_answered c new down (Push rows) now by_key reach from is =
    push_answered c.documents by_key rows new.documents
    (write_wrote c (writes c.documents rows) now new is) down reach
handled_answered c new down (Pull place batch) now by_key reach from is =
    subst (λ (z : Held). IsAnswered z.documents down (Pull place batch)
    (body_of c.documents (Pull place batch))) (some_same is)
    (subst (λ (p : Option Place). IsAnswered c.documents down (Pull p batch)
    (body_of c.documents (Pull p batch))) (sym from.0)
    (pull_answered c.documents down batch by_key from.1 reach))

-- ---- times of places

abbrev pub PlaceHasTime : Option Place → Type 0
PlaceHasTime p = IfSome p HasTime

-- as a place of a message has
pub place_time : (place : Place) → IsPlace place → HasTime place
place_time place is =
    both_true (lt-ltb 0 place.lwt (omega (arith, is.low)))
    (le-leb place.lwt 9007199254740991 is.high)

last_has_time : (documents : Documents) (p q : Option Place) (ds : List Stored)
    → ((d : Stored) → Member d ds → is_time d.lwt ≡ true) → PlaceHasTime p
    → ((ds ≡ []) × (q ≡ p)) ⊎ ((d : Stored) × Member d ds × (q ≡ Some (place_of d)))
    → PlaceHasTime q
last_has_time documents p q ds each has (inl same) = subst PlaceHasTime (sym same.1) has
last_has_time documents p q ds each has (inr x) = subst PlaceHasTime (sym x.2) (each x.0 x.1)

pub docs_have_time : (c : Held) → IsLawful c → (p : Option Place) (n : ℕ) → PlaceHasTime p
    → PlaceHasTime (last_place p (since c.documents p n))
docs_have_time c lawful p n has =
    let by_key = lawful-by_key c lawful in
    let ds = since c.documents p n in
    last_has_time c.documents p (last_place p ds) ds
    (λ d m. timed c lawful d.state.key d (page_held c.documents by_key (stands_above p) n d
    (subst (λ (ds : List Stored). Member d ds) (since-page c.documents by_key p n) m)).0) has
    (last_place_is p ds)

pub pushed_has_time : (fork : Documents) → AreTimed fork → (up : Option Place)
    (rows : List PushRow) → PlaceHasTime up → PlaceHasTime (pushed_place fork up rows)
pushed_has_time fork times up [] has = has
pushed_has_time fork times up (row ∷ rows) has =
    pushed_has_time fork times (place_or up (named fork row.new.key)) rows
    (by (named fork row.new.key) refl)
  where
    by : (o : Option Stored) → named fork row.new.key ≡ o → PlaceHasTime (place_or up o)
    by None is = has
    by (Some d) is = times row.new.key d is

-- the reply to a lawful request is lawful
states_apart : (c : Held) → IsLawful c → (ask : AskKind) → HasRowsApart ask
    → KeysDiffer (answer_states (body_of c.documents ask))
states_apart c lawful (Push rows) apart =
    conflicts_differ c.documents rows (lawful-by_key c lawful) apart
states_apart c lawful (Pull p n) apart = since_differ c.documents p n (lawful-by_key c lawful)

abbrev AskHasTime : AskKind → Type 0
AskHasTime (Push rows) = Unit {0}
AskHasTime (Pull p n) = PlaceHasTime p

answer_has_time : (c : Held) → IsLawful c → (ask : AskKind) → AskHasTime ask
    → HasTimeAt (body_of c.documents ask)
answer_has_time c lawful (Push rows) has = tt
answer_has_time c lawful (Pull p n) has = docs_have_time c lawful p n has

from_has_time : (down : Option Place) (ask : AskKind) → IsFromDown down ask → PlaceHasTime down
    → AskHasTime ask
from_has_time down (Push rows) from has = tt
from_has_time down (Pull p n) from has = subst PlaceHasTime (sym from.0) has

pub reply_lawful : (c : Held) → IsLawful c → AreValid c → (epoch n : ℕ) (down : Option Place)
    (ask : AskKind) → HasRowsApart ask → IsFromDown down ask → PlaceHasTime down
    → IsLawfulReply c.schema (record { epoch = epoch; n = n; body = body_of c.documents ask })
reply_lawful c lawful valid epoch n down ask apart from has = record {
  valid = answered_pass (is_valid c.schema) c.documents ask (lawful-by_key c lawful)
      (documents_pass c lawful valid);
  apart = states_apart c lawful ask apart;
  timed = answer_has_time c lawful ask (from_has_time down ask from has);
}
