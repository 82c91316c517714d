-- What a call that takes a reply owes: its sides stay sound, no checkpoint falls, and what becomes
-- known is held.
use Rattle.std.proofs.Common.{◌≡◌, true, List, map, Option, Some, refl, sym, ◌⊎◌, inl, inr, subst}
use Rattle.rx_value.specs.declared.state.State.{State}
use Rattle.rx_value.proofs.Outcomes.{some_same, not_none}
use Rattle.rx_document.specs.Documents.{Documents}
use Rattle.rx_document.specs.declared.place.Place.{Place}
use Rattle.rx_wire.specs.declared.message.AskKind.{AskKind}
use Rattle.rx_wire.specs.declared.message.AskKind.TheVariants.{Push, Pull}
use Rattle.rx_wire.specs.declared.message.Body.{Body}
use Rattle.rx_wire.specs.declared.message.Body.TheVariants.{Conflicts, Docs}
use Rattle.rx_wire.specs.declared.message.PushRow.{PushRow}
use Rattle.rx_replication.specs.Answered.{IsAnswered}
use Rattle.rx_replication.specs.Known.{KnownStates, with_learnt}
use Rattle.rx_replication.specs.Member.{Member}
use Rattle.rx_replication.specs.Request.{IsCurrent}
use Rattle.rx_replication.specs.Sound.{IsForkSound, IsMasterSound}
use Rattle.rx_replication.specs.Taking.{Resolve, KeepsKey, Taking, taking, real_state, resolutions, pushed_place}
use Rattle.rx_replication.specs.Write.{is_up_to, AreByKey}
use Rattle.rx_replication.proofs.Commits.{IsOld, IsNewState, Wrote, learn_at}
use Rattle.rx_replication.proofs.Distinct.{KeysDiffer, RowKeysDiffer, differ-agree, rows_differ, resolutions_differ, differences_differ, real_states_differ}
use Rattle.rx_replication.proofs.Orders.{up_to_itself}
use Rattle.rx_replication.proofs.Sides.{Holds}
use Rattle.rx_replication.proofs.Taken.{push_fork_side, push_master_side, pull_fork_side, pull_master_side, up_risen, current_push, current_pull, none_pending-known}

-- no two states of an answer have one key
abbrev pub AnswerDiffers : Body → Type 0
AnswerDiffers (Conflicts cs) = KeysDiffer cs
AnswerDiffers (Docs ss to) = KeysDiffer ss

-- ---- the fork's side, whatever the master is

module _ (resolve : Resolve) (law : KeepsKey resolve) (fork : Documents) (known : KnownStates)
    (up down : Option Place) (by_key : AreByKey fork) (sound : IsForkSound fork known up) where
  -- it stays sound
  pub taking_fork_side : (ask : AskKind) (body : Body) (t : Taking) (new : Documents)
      → IsCurrent fork known down ask → AnswerDiffers body
      → taking resolve fork up down ask body ≡ Some t → Wrote fork t.rows new
      → IsForkSound new (with_learnt known t.known) t.up
  taking_fork_side (Push rows) (Conflicts cs) t new current apart is w =
      subst (λ (t : Taking). Wrote fork t.rows new
      → IsForkSound new (with_learnt known t.known) t.up) (some_same is)
      (subst (λ (rows : List PushRow). Wrote fork (resolutions resolve cs rows) new
      → IsForkSound new (with_learnt known (map (real_state cs) rows)) (pushed_place fork up rows))
      (sym (current_push fork known down rows current))
      (push_fork_side fork known up by_key sound current.0 current.1 resolve law cs new)) w
  taking_fork_side (Pull p b) (Docs ss to) t new current apart is w =
      subst (λ (t : Taking). Wrote fork t.rows new
      → IsForkSound new (with_learnt known t.known) t.up) (some_same is)
      (λ w. pull_fork_side fork known
      (none_pending-known fork known by_key (current_pull fork known down p b by_key current)) ss
      (differ-agree ss apart) new w up sound) w
  taking_fork_side (Push rows) (Docs ss to) t new current apart is w = not_none is
  taking_fork_side (Pull p b) (Conflicts cs) t new current apart is w = not_none is

  -- up doesn't fall
  pub taking_up_risen : (ask : AskKind) (body : Body) (t : Taking) → IsCurrent fork known down ask
      → taking resolve fork up down ask body ≡ Some t
      → (p : Place) → up ≡ Some p → is_up_to p t.up ≡ true
  taking_up_risen (Push rows) (Conflicts cs) t current is p e =
      subst (λ (t : Taking). is_up_to p t.up ≡ true) (some_same is)
      (subst (λ (rows : List PushRow). is_up_to p (pushed_place fork up rows) ≡ true)
      (sym (current_push fork known down rows current))
      (up_risen fork known up by_key sound current.0 current.1 p e))
  taking_up_risen (Pull p b) (Docs ss to) t current is q e =
      subst (λ (t : Taking). is_up_to q t.up ≡ true) (some_same is)
      (subst (λ (z : Option Place). is_up_to q z ≡ true) (sym e) (up_to_itself q))
  taking_up_risen (Push rows) (Docs ss to) t current is p e = not_none is
  taking_up_risen (Pull p b) (Conflicts cs) t current is q e = not_none is

  -- what is written has distinct keys, and what becomes known too
  pub taking_differs : (ask : AskKind) (body : Body) (t : Taking) → IsCurrent fork known down ask
      → AnswerDiffers body → taking resolve fork up down ask body ≡ Some t
      → KeysDiffer t.rows × KeysDiffer t.known
  taking_differs (Push rows) (Conflicts cs) t current apart is =
      let rows_apart : RowKeysDiffer rows =
      subst RowKeysDiffer (sym (current_push fork known down rows current))
      (rows_differ fork known current.0 by_key) in
      subst (λ (t : Taking). KeysDiffer t.rows × KeysDiffer t.known) (some_same is)
      (resolutions_differ resolve law cs rows rows_apart, real_states_differ cs rows rows_apart)
  taking_differs (Pull p b) (Docs ss to) t current apart is =
      subst (λ (t : Taking). KeysDiffer t.rows × KeysDiffer t.known) (some_same is)
      (differences_differ fork ss apart, apart)
  taking_differs (Push rows) (Docs ss to) t current apart is = not_none is
  taking_differs (Pull p b) (Conflicts cs) t current apart is = not_none is

-- each state that becomes known is held by the fork afterwards
pub learnt_held : (fork : Documents) (known : KnownStates) (up : Option Place) (ss : List State)
    → IsForkSound fork (with_learnt known ss) up → (s : State) → Member s ss → Holds fork s.key
learnt_held fork known up ss sound s m = held_by (learn_at known ss s.key)
  where
    held_by : IsOld known (with_learnt known ss) ss s.key
        ⊎ IsNewState (with_learnt known ss) ss s.key → Holds fork s.key
    held_by (inl o) = absurd (o.absent s m refl)
    held_by (inr n) = sound.holds s.key n.state n.held

-- ---- the master's side, where the reply is answered

pub taking_master_side : (resolve : Resolve) (fork master : Documents) (known : KnownStates)
    (up down : Option Place) (ask : AskKind) (body : Body) (t : Taking) → AreByKey master
    → IsMasterSound master known down → IsAnswered master down ask body → AnswerDiffers body
    → taking resolve fork up down ask body ≡ Some t
    → IsMasterSound master (with_learnt known t.known) t.down
taking_master_side resolve fork master known up down (Push rows) (Conflicts cs) t by_key sound
    answered apart is =
    subst (λ (t : Taking). IsMasterSound master (with_learnt known t.known) t.down) (some_same is)
    (push_master_side master known down sound rows cs answered)
taking_master_side resolve fork master known up down (Pull p b) (Docs ss to) t by_key sound answered
    apart is =
    subst (λ (t : Taking). IsMasterSound master (with_learnt known t.known) t.down) (some_same is)
    (pull_master_side master known down sound by_key ss to answered (differ-agree ss apart))
taking_master_side resolve fork master known up down (Push rows) (Docs ss to) t by_key sound
    answered apart is = not_none is
taking_master_side resolve fork master known up down (Pull p b) (Conflicts cs) t by_key sound
    answered apart is = not_none is
