-- Turns to masters elsewhere, as each call hands them on.
use Rattle.std.proofs.Common.{◌≡◌, ◌∙◌, ℕ, List, ◌++◌, Result, Ok, Err, IfOk, IsOk, IsErrOf, is_ok, true≢false, sym, ap, subst}
use Rattle.rx_value.proofs.Outcomes.{if_ok}
use Rattle.rx_disk.specs.declared.disk.Disk.{Ghosts}
use Rattle.rx_outside.specs.declared.stop.Stop.{Stop}
use Rattle.rx_outside.specs.declared.stop.Stop.TheVariants.{Memory}
use Rattle.rx_store.specs.Safe.{IsCrashSafe}
use Rattle.rx_store.proofs.Crashes.{answered, other_stop, ran_out, same_stop}
use Rattle.rx_sync.specs.Remote.{Heard, RemoteTurned}
use Rattle.rx_wire.specs.declared.message.Request.{Request}
use Rattle.rx_engine.specs.Callings.{HasMade, TurnsRemotely}
use Rattle.rx_engine.specs.Meaning.{bodies_of}

-- a stop is no answer
pub if_err : {A : Type 0} (P : A → Type 0) (r : Result A Stop) (stop : Stop) → r ≡ Err stop
    → IfOk r P
if_err {A} P r stop is = subst (λ (r : Result A Stop). IfOk r P) (sym is) tt

pub not_done : {A : Type 0} (r : Result A Stop) (stop : Stop) → r ≡ Err stop → IsOk r → ⊥
not_done r stop is done = true≢false (sym done ∙ ap is_ok is)

module _ {D A : Type 0} (d : Ghosts D) (old new : D) (limit : ℕ) (IsFirst : List (List ℕ) → Type 0)
    (IsThen : A → List (List ℕ) → Type 0) (turn : List Heard → RemoteTurned)
    (IsSo : RemoteTurned → List Heard → A → Type 0) (Shows : List Request → List Heard → Type 0)
    (r : Result A Stop)
    (is : TurnsRemotely d old new limit IsFirst IsThen turn IsSo Shows r) where
  -- of the same result, in other words
  pub in_words : (IsFirst' : List (List ℕ) → Type 0) (IsThen' : A → List (List ℕ) → Type 0)
      (turn' : List Heard → RemoteTurned) (IsSo' : RemoteTurned → List Heard → A → Type 0)
      (Shows' : List Request → List Heard → Type 0)
      → ((bodies : List (List ℕ)) → IsFirst' bodies → IsFirst bodies)
      → ((x : A) (bodies : List (List ℕ)) → IsThen x bodies → IsThen' x bodies)
      → ((heard : List Heard) → turn heard ≡ turn' heard)
      → ((u : RemoteTurned) (later : List Heard) (x : A) → IsSo u later x → IsSo' u later x)
      → ((requests : List Request) (heard : List Heard) → Shows requests heard
      → Shows' requests heard)
      → TurnsRemotely d old new limit IsFirst' IsThen' turn' IsSo' Shows' r
  in_words IsFirst' IsThen' turn' IsSo' Shows' first then same so shows = record {
    heard = is.heard;
    requests = is.requests;
    so = λ later.
        subst (λ (u : RemoteTurned). IfOk r (IsSo' u later)) (same (is.heard ++ later))
        (if_ok r (IsSo (turn (is.heard ++ later)) later) (IsSo' (turn (is.heard ++ later)) later)
        (is.so later) (λ x s. so (turn (is.heard ++ later)) later x s));
    safe = λ later told bodies at.
        let s = is.safe later told bodies (first bodies at) in
        subst (λ (u : RemoteTurned). IsCrashSafe d old new bodies (bodies_of u.turned.records) limit
        IsThen' r) (same (is.heard ++ later)) (record {
          moments = s.moments;
          at = if_ok r
              (λ x. IsThen x (bodies ++ bodies_of (turn (is.heard ++ later)).turned.records))
              (λ x. IsThen' x (bodies ++ bodies_of (turn (is.heard ++ later)).turned.records)) s.at
              (λ x held.
              then x (bodies ++ bodies_of (turn (is.heard ++ later)).turned.records) held);
          fits = s.fits;
          full = s.full;
          not_journal = s.not_journal;
        });
    asked = λ other later.
        subst (λ (u : RemoteTurned). HasMade is.requests u (IsOk r)) (same (is.heard ++ later))
        (is.asked other later);
    shown = λ other. shows is.requests is.heard (is.shown other);
  }

  -- memory ran out after it
  pub ran_out_then : {B : Type 0} (IsThen' : B → List (List ℕ) → Type 0)
      (IsSo' : RemoteTurned → List Heard → B → Type 0)
      (Shows' : List Request → List Heard → Type 0) (r' : Result B Stop) → r' ≡ Err Memory
      → TurnsRemotely d old new limit IsFirst IsThen' turn IsSo' Shows' r'
  ran_out_then IsThen' IsSo' Shows' r' out = record {
    heard = is.heard;
    requests = is.requests;
    so = λ later. if_err _ r' Memory out;
    safe = λ later told bodies at.
        ran_out d old new bodies (bodies_of (turn (is.heard ++ later)).turned.records) limit IsThen'
        r' out (is.safe later told bodies at).moments;
    asked = λ other. absurd (other out);
    shown = λ other. absurd (other out);
  }

  -- it stopped, and so does what it is part of
  pub stops_so : {B : Type 0} (IsThen' : B → List (List ℕ) → Type 0)
      (IsSo' : RemoteTurned → List Heard → B → Type 0) (stop : Stop) → r ≡ Err stop
      → (r' : Result B Stop) → r' ≡ Err stop
      → TurnsRemotely d old new limit IsFirst IsThen' turn IsSo' Shows r'
  stops_so {B} IsThen' IsSo' stop here r' there =
      let memory : (IsErrOf r' Memory → ⊥) → IsErrOf r Memory → ⊥ =
      λ other err. other (there ∙ other_stop {A = A} {B = B} stop Memory (sym here ∙ err)) in
      record {
        heard = is.heard;
        requests = is.requests;
        so = λ later. if_err _ r' stop there;
        safe = λ later told bodies at.
            same_stop d old new bodies (bodies_of (turn (is.heard ++ later)).turned.records) limit
            IsThen IsThen' stop r' there
            (subst (λ (r : Result A Stop). IsCrashSafe d old new bodies
            (bodies_of (turn (is.heard ++ later)).turned.records) limit IsThen r) here
            (is.safe later told bodies at));
        asked = λ other later.
            let made = is.asked (memory other) later in
            (made.0, made.1, λ done. absurd (not_done r' stop there done));
        shown = λ other. is.shown (memory other);
      }

  -- it was made, and something was made of it
  pub done_so : {B : Type 0} (IsThen' : B → List (List ℕ) → Type 0)
      (IsSo' : RemoteTurned → List Heard → B → Type 0) (x : A) (y : B) → r ≡ Ok x
      → ((bodies : List (List ℕ)) → IsThen x bodies → IsThen' y bodies)
      → ((u : RemoteTurned) (later : List Heard) → IsSo u later x → IsSo' u later y)
      → TurnsRemotely d old new limit IsFirst IsThen' turn IsSo' Shows (Ok y)
  done_so IsThen' IsSo' x y here then so =
      let none : IsErrOf r Memory → ⊥ = λ err. no_err x Memory (sym here ∙ err) in
      record {
        heard = is.heard;
        requests = is.requests;
        so = λ later. so (turn (is.heard ++ later)) later
            (subst (λ (r : Result A Stop). IfOk r (IsSo (turn (is.heard ++ later)) later)) here
            (is.so later));
        safe = λ later told bodies at.
            answered d old new bodies (bodies_of (turn (is.heard ++ later)).turned.records) limit
            IsThen IsThen' x y
            (subst (λ (r : Result A Stop). IsCrashSafe d old new bodies
            (bodies_of (turn (is.heard ++ later)).turned.records) limit IsThen r) here
            (is.safe later told bodies at))
            (λ held. then (bodies ++ bodies_of (turn (is.heard ++ later)).turned.records) held);
        asked = λ other later.
            let made = is.asked none later in
            (made.0, made.1, λ done. made.2 (ap is_ok here));
        shown = λ other. is.shown none;
      }
    where
      no_err : (x : A) (stop : Stop) → Ok x ≡ Err stop → ⊥
      no_err x stop is = cc
