-- One answer of a master.
use Rattle.std.proofs.Common.{◌≡◌, ◌∙◌, refl, sym, ap, subst, ℕ, true, List, [], ◌∷◌, inr, map, Option, None, Some, option_map, is_some}
use Rattle.rx_value.specs.Named.{named}
use Rattle.rx_collection.specs.Held.{Held}
use Rattle.rx_record.specs.Content.{Content, content_bytes}
use Rattle.rx_replication.specs.Master.{body_of, master_then, reply_with}
use Rattle.rx_serve.specs.Answered.{AnswersAsk, Commit, Commits, Gives, StopsAsk, answered_at, commit_at, commit_by, commit_if}
use Rattle.rx_wire.specs.Lawful.{IsReply, IsRequest}
use Rattle.rx_wire.specs.declared.message.AskKind.{AskKind}
use Rattle.rx_wire.specs.declared.message.AskKind.TheVariants.{Push, Pull}
use Rattle.rx_wire.specs.declared.message.Reply.{Reply}
use Rattle.rx_wire.specs.declared.message.Request.{Request}
use Rattle.rx_world.specs.Commit.{out_of}
use Rattle.rx_world.specs.Made.{IsMadeWorld}
use Rattle.rx_world.specs.Step.{step, written_to}
use Rattle.rx_world.specs.World.{World}
use Rattle.rx_world.proofs.Looked.{named-change_same}
use Rattle.rx_world.proofs.Steps.{lawful_at}
use Rattle.rx_world.proofs.Valid.{valid_at}
use Rattle.rx_sync.proofs.Lawful.{replies_lawfully}
use Rattle.rx_host.specs.Moments.{HasMoment}
use Rattle.rx_host.specs.Planned.{Writes}
use Rattle.rx_host.specs.Records.{bodies_of, record_of}
use Rattle.std.specs.Option.{unwrap_or}
use Rattle.rx_host.specs.Worlds.{collection_at, no_collection}

-- ---- the moment

-- a request was answered at its moment
pub answers_by : (ask : AskKind) (q : Request) (old new : Held) (before after : List ℕ)
    (reply : Option Reply) (now : ℕ) (Holds : Commits → Type 0) → HasMoment ask now before after
    → Gives (answered_at old now q) old reply new → Holds (commit_at old now q ask)
    → AnswersAsk ask q old before reply new after Holds
answers_by (Push pushed) q old new before after reply now Holds has gives holds =
    (now, has, record { gives = gives; holds = holds })
answers_by (Pull place batch) q old new before after reply now Holds has gives holds = (
  has.1,
  record {
    gives = subst (λ n. Gives (answered_at old n q) old reply new) has.0 gives;
    holds = subst (λ n. Holds (commit_at old n q (Pull place batch))) has.0 holds;
  },
)

no_commit : (o : Option (Reply × Held)) → commit_if o [] ≡ []
no_commit None = refl
no_commit (Some p) = refl

-- a stop came within
pub stops_by : (ask : AskKind) (q : Request) (old : Held) (before after : List ℕ) (now : ℕ)
    (Holds : Commits → Commits → Type 0) → HasMoment ask now before after
    → Holds [] (commit_at old now q ask) → StopsAsk ask q old before after Holds
stops_by (Push pushed) q old before after now Holds has holds = inr (now, has, holds)
stops_by (Pull place batch) q old before after now Holds has holds =
    (has.1, subst (Holds []) (no_commit (answered_at old now q)) holds)

-- ---- what was planned

-- of the collection as it is
pub writes_at : (R c : Held) (ask : AskKind) (now : ℕ) (o o' : Option Content) → R ≡ c → o ≡ o'
    → Writes R (commit_by R ask now) (master_then R ask now) o
    → Writes c (commit_by c ask now) (master_then c ask now) o'
writes_at R c ask now o o' same is writes =
    let P : Held → Type 0 = λ h. Writes h (commit_by h ask now) (master_then h ask now) o in
    let Q : Option Content → Type 0 = λ x.
    Writes c (commit_by c ask now) (master_then c ask now) x in
    subst Q is (subst P same writes)

module _ (c : Held) (now : ℕ) (q : Request) where
  abbrev answer_with : Held → Reply × Held
  answer_with after = (reply_with q (body_of c.documents q.ask), after)

  answered_so : (o : Option Held) → master_then c q.ask now ≡ o
      → answered_at c now q ≡ option_map answer_with o
  answered_so o is = ap (option_map answer_with) is

  -- no write time is left
  pub gives_clock : master_then c q.ask now ≡ None → Gives (answered_at c now q) c None c
  gives_clock none =
      subst (λ o. Gives o c None c) (sym (answered_so None none)) (refl, refl)

  pub none_due : master_then c q.ask now ≡ None → commit_at c now q q.ask ≡ []
  none_due none = ap (λ o. commit_if o (commit_by c q.ask now)) (answered_so None none)

  module _ (reply : Reply) (is : reply ≡ reply_with q (body_of c.documents q.ask)) where
    -- nothing is written
    pub gives_alone : Writes c (commit_by c q.ask now) (master_then c q.ask now) None
        → Gives (answered_at c now q) c (Some reply) c
    gives_alone writes =
        subst (λ o. Gives o c (Some reply) c) (sym (answered_so (Some c) writes.1))
        (ap Some is, refl)

    -- a commit is
    pub gives_one : (r : Content) (after : Held)
        (writes : Writes c (commit_by c q.ask now) (master_then c q.ask now) (Some r))
        → after ≡ written_to writes.0.lwt (map out_of writes.0.rows) c
        → Gives (answered_at c now q) c (Some reply) after
    gives_one r after writes same =
        subst (λ o. Gives o c (Some reply) after)
        (sym (answered_so (Some (written_to writes.0.lwt (map out_of writes.0.rows) c)) writes.3))
        (ap Some is, same)

  pub alone_due : Writes c (commit_by c q.ask now) (master_then c q.ask now) None
      → commit_at c now q q.ask ≡ []
  alone_due writes =
      ap (λ o. commit_if o (commit_by c q.ask now)) (answered_so (Some c) writes.1) ∙ writes.0

  pub one_due : (r : Content)
      (writes : Writes c (commit_by c q.ask now) (master_then c q.ask now) (Some r))
      → content_bytes r ∷ [] ≡ bodies_of c.name (commit_at c now q q.ask)
  one_due r writes =
      ap (λ (x : Content). content_bytes x ∷ []) writes.1
      ∙ ap (bodies_of c.name) (sym (due ∙ writes.2))
    where
      due : commit_at c now q q.ask ≡ commit_by c q.ask now
      due = ap (λ o. commit_if o (commit_by c q.ask now))
          (answered_so (Some (written_to writes.0.lwt (map out_of writes.0.rows) c)) writes.3)

-- ---- the world

-- the collection after the record of a commit to it
pub stepped_at : (w : World) (name : List ℕ) (c : Held) (commit : Commit)
    → named w.collections name ≡ Some c
    → named (step (record_of name commit) w).collections name
    ≡ Some (written_to commit.lwt (map out_of commit.rows) c)
stepped_at w name c commit held =
    named-change_same (written_to commit.lwt (map out_of commit.rows)) w.collections name
    ∙ ap (option_map (written_to commit.lwt (map out_of commit.rows))) held

-- by what is kept of the record
module _
    (w : World) (name : List ℕ) (c : Held) (r : Content) (commit : Commit)
    (held : named w.collections name ≡ Some c) (called : c.name ≡ name)
    (is : r ≡ record_of c.name commit)
  where
    at_name : named (step r w).collections name
        ≡ Some (written_to commit.lwt (map out_of commit.rows) c)
    at_name =
        ap (λ (x : Content). named (step x w).collections name)
        (is ∙ ap (λ n. record_of n commit) called)
        ∙ stepped_at w name c commit held

    pub still_held : is_some (named (step r w).collections name) ≡ true
    still_held = ap is_some at_name

    pub collection_then : (after : World) → after ≡ step r w
        → collection_at name after ≡ written_to commit.lwt (map out_of commit.rows) c
    collection_then after same =
        ap (collection_at name) same
        ∙ ap (λ (o : Option Held). unwrap_or o no_collection) at_name

-- ---- the reply

-- of a collection of a world that records made is lawful
pub reply_lawful : (w : World) → IsMadeWorld w → (name : List ℕ) (c : Held)
    → named w.collections name ≡ Some c → (d : Held) → c ≡ d → (q : Request)
    → IsRequest d.schema q → (reply : Reply)
    → reply ≡ reply_with q (body_of c.documents q.ask) → IsReply d.schema reply
reply_lawful w made name c at d same q lawful reply is =
    let here : IsReply c.schema (reply_with q (body_of c.documents q.ask)) =
    replies_lawfully c (lawful_at w name c made.lawful at).lawful
    (valid_at w name c made.valid at) q
    (subst (λ (x : Held). IsRequest x.schema q) (sym same) lawful) in
    subst (λ (x : Held). IsReply x.schema reply) same (subst (IsReply c.schema) (sym is) here)
