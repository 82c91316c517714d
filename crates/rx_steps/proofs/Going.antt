-- Steps one after another.
use Rattle.std.proofs.Common.{◌≡◌, ℕ, List, [], ◌∷◌, ◌++◌, Option, None, refl, sym, ap, ◌∙◌, subst}
use Rattle.rx_value.proofs.Outcomes.{not_none}
use Rattle.rx_record.specs.Content.{Content}
use Rattle.rx_replication.specs.Steps.{System, Step, IsLawfulStep, AreLawfulSteps, run, system_after}
use Rattle.rx_replication.specs.Taking.{Resolve}
use Rattle.rx_reply.specs.declared.turn.Exchanged.{Exchanged}
use Rattle.rx_sync.specs.Asks.{Asks}
use Rattle.rx_sync.specs.Exchange.{Planned, behind, world_after}
use Rattle.rx_sync.proofs.Worlds.{after-append}
use Rattle.rx_world.specs.Step.{epoch_after, step}
use Rattle.rx_world.specs.World.{World}
use Rattle.std.specs.List.{AllByRecursion}
use Rattle.rx_steps.specs.Exchanging.{AreFirst}
use Rattle.rx_steps.specs.Shows.{LeadsTo, Shows}

-- the first of these steps lead to what is shown
pub record Goes (by : Resolve) (s : System) (a : Asks) (w : World) (name : List ℕ)
    (all : List Step) (came : Option Exchanged) : Type 0 where
  pub leads : LeadsTo by s a w name
  pub first : AreFirst all came leads.steps

module _ (by : Resolve) (a : Asks) (w : World) (name : List ℕ) where
  -- no step any more, as no write time is left
  pub goes_stop : (s : System) (all : List Step) → Shows a w name s → Goes by s a w name all None
  goes_stop s all shown = record {
    leads = record { steps = []; lawful = tt; shown = shown };
    first = record { rest = all; first = refl; whole = λ e is. not_none is };
  }

  -- or as there is none any more
  pub goes_end : (s : System) (came : Option Exchanged) → Shows a w name s
      → Goes by s a w name [] came
  goes_end s came shown = record {
    leads = record { steps = []; lawful = tt; shown = shown };
    first = record { rest = []; first = refl; whole = λ e is. refl };
  }

  -- a step before others
  pub goes_on : (s next : System) (all : List Step) (came : Option Exchanged) (x : Step)
      → IsLawfulStep x → system_after by s x ≡ next → Goes by next a w name all came
      → Goes by s a w name (x ∷ all) came
  goes_on s next all came x lawful is g = record {
    leads = record {
      steps = x ∷ g.leads.steps;
      lawful = (lawful, g.leads.lawful);
      shown =
          subst (λ (y : System). Shows a w name (run by g.leads.steps y)) (sym is) g.leads.shown;
    };
    first = record {
      rest = g.first.rest;
      first = ap (λ (xs : List Step). x ∷ xs) g.first.first;
      whole = g.first.whole;
    };
  }

-- lists of steps one after the other
pub lawful_both : (xs ys : List Step) → AreLawfulSteps xs → AreLawfulSteps ys
    → AreLawfulSteps (xs ++ ys)
lawful_both [] ys first rest = rest
lawful_both (x ∷ xs) ys first rest = (first.0, lawful_both xs ys first.1 rest)

pub run_both : (by : Resolve) (xs ys : List Step) (s : System)
    → run by (xs ++ ys) s ≡ run by ys (run by xs s)
run_both by [] ys s = refl
run_both by (x ∷ xs) ys s = run_both by xs ys (system_after by s x)

abbrev pub leads_both : (by : Resolve) (s : System) (a b : Asks) (v w : World) (name : List ℕ)
    (l : LeadsTo by s a v name) → LeadsTo by (run by l.steps s) b w name → LeadsTo by s b w name
leads_both by s a b v w name l m = record {
  steps = l.steps ++ m.steps;
  lawful = lawful_both l.steps m.steps l.lawful m.lawful;
  shown = subst (λ (y : System). Shows b w name y) (sym (run_both by l.steps m.steps s)) m.shown;
}

-- records before others
pub goes_behind : (by : Resolve) (s : System) (a : Asks) (w : World) (name : List ℕ)
    (all : List Step) (cs : List Content) (p : Planned)
    → Goes by s a (world_after p.records (world_after cs w)) name all p.came
    → Goes by s a (world_after (behind cs p).records w) name all (behind cs p).came
goes_behind by s a w name all cs p g =
    subst (λ (v : World). Goes by s a v name all p.came) (sym (after-append cs p.records w)) g

-- ---- the epoch

-- the record leaves it
abbrev pub KeepsEpoch : Content → Type 0
KeepsEpoch c = (k : ℕ) → epoch_after c k ≡ k

pub epoch_stays : (cs : List Content) (w : World) → AllByRecursion KeepsEpoch cs
    → (world_after cs w).epoch ≡ w.epoch
epoch_stays [] w all = refl
epoch_stays (c ∷ cs) w all = epoch_stays cs (step c w) all.1 ∙ all.0 w.epoch
