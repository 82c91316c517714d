-- What a disk keeps of one connection after another.
use Rattle.std.proofs.Common.{◌≡◌, ◌∙◌, sym, ap, subst, ℕ, List, [], ◌++◌, Option, None, append-nil, append_assoc}
use Rattle.rx_disk.specs.declared.disk.Disk.{Ghosts}
use Rattle.rx_outside.specs.declared.stop.Stop.{Stop}
use Rattle.rx_serve.specs.Answered.{Commits}
use Rattle.rx_host.specs.Engine.{IsAt, limit_of, name_of}
use Rattle.rx_host.specs.Keeping.{Keeps}
use Rattle.rx_host.specs.Laws.{OnlyNow, bodies_joined, keeps_none, keeps_on}
use Rattle.rx_host.specs.Records.{bodies_of}
use Rattle.rx_host.specs.Serving.{HasKept, HasStopped}
use Rattle.rx_host.specs.declared.engine.MasterEngine.{MasterEngine}

module _ {D : Type 0} (d : Ghosts D) where
  -- nothing was done yet
  pub kept_none : OnlyNow d → (disk : D) (m : MasterEngine) → HasKept d disk disk m m []
  kept_none only_now disk m = λ told bodies at. record {
    keeps = keeps_none d only_now told disk m bodies at None (λ would most is. absurd (cc));
    at = subst (λ (bs : List (List ℕ)). IsAt d disk m bs) (sym (append-nil bodies)) at;
  }

  -- all is kept where the work ended with no stop
  pub kept_left : (old new : D) (m m' : MasterEngine) (commits : Commits)
      → HasKept d old new m m' commits → HasStopped d old new m None commits []
  kept_left old new m m' commits kept = λ told bodies at. (kept told bodies at).keeps

  module _ (a b c : D) (m₀ m₁ : MasterEngine) (name : name_of m₁ ≡ name_of m₀)
      (limit : limit_of m₁ ≡ limit_of m₀) (first : Commits) (kept : HasKept d a b m₀ m₁ first) where
    -- by the name and the limit of the master as it was
    as_was : (bodies : List (List ℕ)) (sure more : Commits) (stop : Option Stop)
        → Keeps d b c bodies (name_of m₁) (limit_of m₁) sure more stop
        → Keeps d b c bodies (name_of m₀) (limit_of m₀) sure more stop
    as_was bodies sure more stop keeps =
        subst (λ (v : ℕ). Keeps d b c bodies (name_of m₀) v sure more stop) limit
        (subst (λ (v : List ℕ). Keeps d b c bodies v (limit_of m₁) sure more stop) name keeps)

    -- and then more is
    pub kept_on : (m₂ : MasterEngine) (second : Commits) → HasKept d b c m₁ m₂ second
        → HasKept d a c m₀ m₂ (first ++ second)
    kept_on m₂ second next = λ told bodies at.
        let here = kept told bodies at in
        let mid = bodies ++ bodies_of (name_of m₀) first in
        let there = next told mid here.at in
        record {
          keeps = keeps_on d a b c bodies (name_of m₀) (limit_of m₀) first second [] None None
              here.keeps (as_was mid second [] None there.keeps);
          at = subst (λ (bs : List (List ℕ)). IsAt d c m₂ bs)
              (append_assoc bodies (bodies_of (name_of m₀) first) (bodies_of (name_of m₀) second)
              ∙ ap (λ bs. bodies ++ bs) (sym (bodies_joined (name_of m₀) first second)))
              (subst (λ (v : List ℕ). IsAt d c m₂ (mid ++ bodies_of v second)) name there.at);
        }

    -- and then a stop came, or none did
    pub stopped_on : (stop : Option Stop) (sure more : Commits) → HasStopped d b c m₁ stop sure more
        → HasStopped d a c m₀ stop (first ++ sure) more
    stopped_on stop sure more next = λ told bodies at.
        let here = kept told bodies at in
        let mid = bodies ++ bodies_of (name_of m₀) first in
        keeps_on d a b c bodies (name_of m₀) (limit_of m₀) first sure more None stop here.keeps
        (as_was mid sure more stop (next told mid here.at))
