-- Replaying more bodies.
use Rattle.std.proofs.Common.{◌≡◌, ℕ, List, [], ◌∷◌, ◌++◌, true, cond, Option, Some, None, refl, ap}
use Rattle.rx_record.specs.Content.{Content, record_of}
use Rattle.rx_world.specs.Replay.{after_body, replay_from, replay}
use Rattle.rx_world.specs.Step.{step, step_where_legal, legal}
use Rattle.rx_world.specs.World.{World, empty}

-- from no world there is none
pub replay_from-none : (bodies : List (List ℕ)) → replay_from None bodies ≡ None
unfolding replay_from
replay_from-none bodies = refl

-- no bodies leave what there is
pub replay_from-nothing : (o : Option World) → replay_from o [] ≡ o
unfolding replay_from
replay_from-nothing None = refl
replay_from-nothing (Some w) = refl

-- the first body, and then the others
pub replay_from-first : (w : World) (body : List ℕ) (bodies : List (List ℕ))
    → replay_from (Some w) (body ∷ bodies) ≡ replay_from (after_body (record_of body) w) bodies
unfolding replay_from
replay_from-first w body bodies = refl

-- some bodies, and then others
pub replay_from-append : (o : Option World) (xs ys : List (List ℕ))
    → replay_from o (xs ++ ys) ≡ replay_from (replay_from o xs) ys
unfolding replay_from
replay_from-append None xs ys = refl
replay_from-append (Some w) [] ys = refl
replay_from-append (Some w) (x ∷ xs) ys = replay_from-append (after_body (record_of x) w) xs ys

pub replay-append : (xs ys : List (List ℕ)) → replay (xs ++ ys) ≡ replay_from (replay xs) ys
replay-append xs ys = replay_from-append (Some empty) xs ys

-- a legal record makes its step
pub stepped-legal : (c : Content) (w : World) → legal c w ≡ true
    → step_where_legal c w ≡ Some (step c w)
stepped-legal c w is = ap (λ b. cond b (Some (step c w)) None) is
