-- Each step keeps what is kept.
use Rattle.std.proofs.Common.{◌≡◌, ◌≢◌, ℕ, ◌+◌, ◌≤◌, true, false, cond, List, [], ◌∷◌, map, take, Option, Some, None, refl, sym, ap, ◌∙◌, inl, inr, subst, arith, eqb-true, slice_get}
use Rattle.std.proofs.Math.ListN.{length-map}
use Rattle.std.proofs.lemmas.Bool.{and_parts}
use Rattle.rx_value.specs.Named.{named}
use Rattle.rx_value.specs.declared.state.State.{State}
use Rattle.rx_value.proofs.Outcomes.{some_same, not_none}
use Rattle.rx_document.specs.Documents.{Documents}
use Rattle.rx_document.specs.declared.place.Place.{Place}
use Rattle.rx_document.specs.declared.stored.Stored.{Stored}
use Rattle.rx_collection.specs.Held.{Held}
use Rattle.rx_collection.specs.Since.{since}
use Rattle.rx_collection.specs.Time.{last_lwt}
use Rattle.rx_wire.specs.declared.message.AskKind.{AskKind}
use Rattle.rx_wire.specs.declared.message.AskKind.TheVariants.{Push, Pull}
use Rattle.rx_wire.specs.declared.message.Body.{Body}
use Rattle.rx_wire.specs.declared.message.Body.TheVariants.{Conflicts, Docs}
use Rattle.rx_wire.specs.declared.message.PushRow.{PushRow}
use Rattle.rx_wire.specs.declared.message.Reply.{Reply}
use Rattle.rx_wire.specs.declared.message.Request.{Request}
use Rattle.rx_replication.specs.Answered.{IsAnswered, IsPushAnswered, IsPullAnswered}
use Rattle.rx_replication.specs.Fitting.{IsFitting}
use Rattle.rx_replication.specs.Interleaving.{number_of, reply_number, NumbersDiffer}
use Rattle.rx_replication.specs.Known.{KnownStates, with_learnt}
use Rattle.rx_replication.specs.Master.{writes, body_of, master_then, reply_with}
use Rattle.rx_replication.specs.Member.{Member}
use Rattle.rx_replication.specs.Request.{push_or_pull, IsCurrent}
use Rattle.rx_replication.specs.Sound.{IsSoundSide, Reach}
use Rattle.rx_replication.specs.Steps.{System, OpenRequest, MadeReply, Step, system_after, with_fork, with_master, request_of, with_request, with_reply, handled_in, with_taking, taken_in, arrived_in, is_awaited, migrated, IsLawfulStep}
use Rattle.rx_replication.specs.Steps.Step.{CommitFork, CommitMaster, Ask, Handle, Arrive, Restart, Migrate}
use Rattle.rx_replication.specs.Taking.{Resolve, KeepsKey, taking, real_state, resolutions, pushed_place, differences}
use Rattle.rx_replication.specs.Write.{write}
use Rattle.rx_replication.proofs.Changed.{changed-by_key, changed_side}
use Rattle.rx_replication.proofs.Commits.{Wrote, write_wrote}
use Rattle.rx_replication.proofs.Handled.{RowsApart, Agree, push_answered, push_told, push_fits, pull_answered, pull_agrees, pull_quiet, pull_fits}
use Rattle.rx_replication.proofs.Kept.{IsFrom, IsAsked, Tells, IsGood, IsPast, IsKept}
use Rattle.rx_replication.proofs.Lists.{from_slice_get, from_slice_take}
use Rattle.rx_replication.proofs.Sides.{side_after, answered_after}
use Rattle.rx_replication.proofs.Taken.{pushed, rows_of, rows_apart, push_fork_side, push_master_side, pull_fork_side, pull_master_side, current_push, current_pull, none_pending-known}

-- ---- commits

asked_after : (fork new : Documents) (ss : List State) (known : KnownStates) (down : Option Place)
    (qs : List Request) (o : OpenRequest) → Wrote fork ss new → IsAsked fork known down qs o
    → IsAsked new known down qs o
asked_after fork new ss known down qs o w a =
    elim w.rises [
      | inl rise ↦ let b = a.before in record {
        member = a.member;
        before = omega arith;
        current = λ e. absurd (omega arith);
        from = a.from;
      }
      | inr same ↦ subst (λ (c : Documents). IsAsked c known down qs o) (sym same) a
    ]

pub kept_fork : (w : System) (ss : List State) (c : Held) → IsKept w
    → Wrote w.fork.documents ss c.documents → IsKept (record w { fork = c })
kept_fork w ss c k wr = record {
  sound = record {
    fork_side = side_after w.fork.documents ss c.documents wr w.known w.up k.sound.fork_side;
    master_side = k.sound.master_side;
  };
  fork_keys = wr.by_key k.fork_keys;
  master_keys = k.master_keys;
  differ = k.differ;
  past = k.past;
  linked = k.linked;
  asked = λ o e.
      asked_after w.fork.documents c.documents ss w.known w.down w.requests o wr (k.asked o e);
  good = k.good;
}

good_after : (m new : Documents) (ss : List State) (known : KnownStates) (down : Option Place)
    (ask : AskKind) (r : MadeReply) → Wrote m ss new → Reach m down → IsGood m known down ask r
    → IsGood new known down ask r
good_after m new ss known down ask r w reach g = record {
  answered = answered_after m ss new w down ask r.reply.body reach g.answered;
  tells = g.tells;
}

pub kept_master : (w : System) (ss : List State) (c : Held) → IsKept w
    → Wrote w.master.documents ss c.documents → IsKept (record w { master = c })
kept_master w ss c k wr = record {
  sound = record {
    fork_side = k.sound.fork_side;
    master_side =
        side_after w.master.documents ss c.documents wr w.known w.down k.sound.master_side;
  };
  fork_keys = k.fork_keys;
  master_keys = wr.by_key k.master_keys;
  differ = k.differ;
  past = k.past;
  linked = k.linked;
  asked = k.asked;
  good = λ o e r m n. good_after w.master.documents c.documents ss w.known w.down o.request.ask r wr
      k.sound.master_side.reached (k.good o e r m n);
}

-- ---- a request made

past_made : (number : ℕ × ℕ) (epoch n : ℕ) → IsPast number epoch n → IsPast number epoch (n + 1)
past_made number epoch n p =
    let a = p.epochs in
    let b = p.counts in record { epochs = a; counts = λ e. let h = b e in omega arith }

fresh_number : (number : ℕ × ℕ) (epoch n : ℕ) → IsPast number epoch n → number ≢ (epoch, n + 1)
fresh_number number epoch n p e =
    let a : number.0 ≡ epoch = ap (λ (z : ℕ × ℕ). z.0) e in
    let b : number.1 ≡ n + 1 = ap (λ (z : ℕ × ℕ). z.1) e in
    let c : number.1 ≤ n = p.counts a in
    omega arith

from_asked : (rows : List PushRow) (down : Option Place) (batch : ℕ) → 1 ≤ batch → RowsApart rows
    → IsFrom down (push_or_pull rows down batch)
from_asked [] down batch h apart = (refl, h)
from_asked (r ∷ rs) down batch h apart = apart

pub kept_made : (w : System) (batch : ℕ) → 1 ≤ batch → IsKept w
    → IsKept (with_request w (request_of w batch))
kept_made w batch h k =
    let q : Request = request_of w batch in
    record {
      sound = k.sound;
      fork_keys = k.fork_keys;
      master_keys = k.master_keys;
      differ = (λ p m. fresh_number (number_of p) w.epoch w.n (k.past p m), k.differ);
      past = λ p. elim [
        | inl is ↦ subst (λ (z : Request). IsPast (number_of z) w.epoch (w.n + 1)) (sym is)
            (record { epochs = omega arith; counts = λ e. omega arith })
        | inr m ↦ past_made (number_of p) w.epoch w.n (k.past p m)
      ];
      linked = λ r m. let l = k.linked r m in (l.0, inr l.1, l.2, l.3);
      asked = λ o e. subst (IsAsked w.fork.documents w.known w.down (q ∷ w.requests)) (some_same e)
          (record {
            member = inl refl;
            before = omega arith;
            current = λ _. (batch, h, refl);
            from =
                from_asked (rows_of w.known (pushed w.fork.documents w.known batch)) w.down batch h
                (rows_apart w.fork.documents w.known k.fork_keys batch);
          });
      good = λ o e r m n.
          let l = k.linked r m in
          absurd (fresh_number (number_of l.0) w.epoch w.n (k.past l.0 l.1)
          (l.2 ∙ n ∙ ap (λ (z : OpenRequest). number_of z.request) (sym (some_same e))));
    }

-- ---- a restart

pub kept_restart : (w : System) → IsKept w
    → IsKept (record w { epoch = w.epoch + 1; n = 0; waiting = None })
kept_restart w k = record {
  sound = k.sound;
  fork_keys = k.fork_keys;
  master_keys = k.master_keys;
  differ = k.differ;
  past = λ q m. let p = (k.past q m).epochs in
      record { epochs = omega arith; counts = λ e. absurd (omega arith) };
  linked = k.linked;
  asked = λ o e. not_none e;
  good = λ o e. not_none e;
}

-- ---- a migration

pub kept_migrated : (w : System) (change : State → State) → ((s : State) → (change s).key ≡ s.key)
    → IsKept w → IsKept (migrated change w)
kept_migrated w change keeps k = record {
  sound = record {
    fork_side =
        changed_side change keeps w.fork.documents w.known w.up k.sound.fork_side;
    master_side =
        changed_side change keeps w.master.documents w.known w.down k.sound.master_side;
  };
  fork_keys = changed-by_key change keeps w.fork.documents k.fork_keys;
  master_keys = changed-by_key change keeps w.master.documents k.master_keys;
  differ = k.differ;
  past = k.past;
  linked = k.linked;
  asked = λ o e. not_none e;
  good = λ o e. not_none e;
}

-- ---- a request handled

-- of all requests ever made a number tells one
pub same_request : (qs : List Request) (p q : Request) → NumbersDiffer qs → Member p qs
    → Member q qs → number_of p ≡ number_of q → p ≡ q
same_request [] p q d m n e = absurd m
same_request (x ∷ qs) p q d (inl is) (inl js) e = is ∙ sym js
same_request (x ∷ qs) p q d (inl is) (inr n) e = absurd (d.0 q n (sym e ∙ ap number_of is))
same_request (x ∷ qs) p q d (inr m) (inl js) e = absurd (d.0 p m (e ∙ ap number_of js))
same_request (x ∷ qs) p q d (inr m) (inr n) e = same_request qs p q d.1 m n e

kept_replied : (w : System) (m : Held) (r : MadeReply) → IsKept (record w { master = m })
    → (q : Request) → Member q w.requests → number_of q ≡ reply_number r.reply
    → IsFitting q.ask r.reply.body
    → ((o : OpenRequest) → w.waiting ≡ Some o → reply_number r.reply ≡ number_of o.request
    → IsGood m.documents w.known w.down o.request.ask r)
    → IsKept (record w { master = m; replies = r ∷ w.replies })
kept_replied w m r k q h is fits good = record {
  sound = k.sound;
  fork_keys = k.fork_keys;
  master_keys = k.master_keys;
  differ = k.differ;
  past = k.past;
  linked = λ s. elim [
    | inl same ↦ (
      q,
      h,
      is ∙ ap (λ (z : MadeReply). reply_number z.reply) (sym same),
      subst (λ (z : MadeReply). IsFitting q.ask z.reply.body) (sym same) fits,
    )
    | inr n ↦ k.linked s n
  ];
  asked = k.asked;
  good = λ o e s. elim [
    | inl same ↦ (λ n. subst (IsGood m.documents w.known w.down o.request.ask) (sym same)
        (good o e (ap (λ (z : MadeReply). reply_number z.reply) (sym same) ∙ n)))
    | inr n ↦ k.good o e s n
  ];
}

module _ (w : System) (k : IsKept w) (q : Request) (member : Member q w.requests) where
  abbrev made : Held → MadeReply
  made m = record { reply = reply_with q (body_of w.master.documents q.ask); master = m }

  -- a reply under the open request's number is to the open request
  open_is : (o : OpenRequest) → w.waiting ≡ Some o → number_of q ≡ number_of o.request
      → q ≡ o.request
  open_is o e is = same_request w.requests q o.request k.differ member (k.asked o e).member is

  -- so what is asked is as at its asking
  asked_from : (o : OpenRequest) → w.waiting ≡ Some o → number_of q ≡ number_of o.request
      → IsFrom w.down q.ask
  asked_from o e is =
      subst (λ (z : Request). IsFrom w.down z.ask) (sym (open_is o e is)) (k.asked o e).from

  abbrev IsGoodFor : Held → AskKind → Body → Type 0
  IsGoodFor m ask body =
      IsGood m.documents w.known w.down ask
      (record { reply = reply_with q body; master = m })

  kept_push : (rows : List PushRow) (now : ℕ) (o : Option Held) → q.ask ≡ Push rows
      → write w.master (writes w.master.documents rows) now ≡ o
      → IsKept (with_reply w q o)
  kept_push rows now None is e = k
  kept_push rows now (Some m) is e =
      let wrote = write_wrote w.master (writes w.master.documents rows) now m e in
      kept_replied w m (made m) (kept_master w (writes w.master.documents rows) m k wrote) q member
      refl
      (subst (λ (z : AskKind). IsFitting z (body_of w.master.documents z)) (sym is)
      (push_fits w.master.documents k.master_keys rows))
      (λ o f n.
      let from : IsFrom w.down (Push rows) = subst (IsFrom w.down) is (asked_from o f n) in
      subst (λ (z : Request). IsGood m.documents w.known w.down z.ask (made m)) (open_is o f n)
      (subst (λ (z : AskKind). IsGoodFor m z (body_of w.master.documents z)) (sym is) (record {
        answered = push_answered w.master.documents k.master_keys rows m.documents wrote w.down
            k.sound.master_side.reached;
        tells = push_told w.master.documents k.master_keys rows m.documents wrote from;
      })))

  good_pull : (p : Option Place) (batch : ℕ) → p ≡ w.down → 1 ≤ batch
      → IsGoodFor w.master (Pull p batch) (body_of w.master.documents (Pull p batch))
  good_pull p batch is some =
      subst (λ (z : Option Place).
      IsGoodFor w.master (Pull z batch) (body_of w.master.documents (Pull z batch))) (sym is)
      (record {
        answered = pull_answered w.master.documents w.down batch k.master_keys some
            k.sound.master_side.reached;
        tells = (
          pull_agrees w.master.documents w.down batch k.master_keys,
          λ few. pull_quiet w.master.documents w.down batch k.master_keys some
              k.sound.master_side.reached w.known k.sound.master_side
              (let e = length-map (since w.master.documents w.down batch)
              (λ (d : Stored). d.state) in omega arith),
        );
      })

  kept_pull : (p : Option Place) (batch : ℕ) → q.ask ≡ Pull p batch
      → IsKept (with_reply w q (Some w.master))
  kept_pull p batch is =
      kept_replied w w.master (made w.master) k q member refl
      (subst (λ (z : AskKind). IsFitting z (body_of w.master.documents z)) (sym is)
      (pull_fits w.master.documents p batch k.master_keys))
      (λ o f n.
      let from : IsFrom w.down (Pull p batch) = subst (IsFrom w.down) is (asked_from o f n) in
      subst (λ (z : Request). IsGood w.master.documents w.known w.down z.ask (made w.master))
      (open_is o f n)
      (subst (λ (z : AskKind). IsGoodFor w.master z (body_of w.master.documents z)) (sym is)
      (good_pull p batch from.0 from.1)))

  kept_answered : (ask : AskKind) (now : ℕ) → q.ask ≡ ask
      → IsKept (with_reply w q (master_then w.master ask now))
  kept_answered (Push rows) now is =
      kept_push rows now (write w.master (writes w.master.documents rows) now) is refl
  kept_answered (Pull p batch) now is = kept_pull p batch is

pub kept_handled : (w : System) (o : Option Request) (now : ℕ) → IsKept w
    → ((q : Request) → o ≡ Some q → Member q w.requests) → IsKept (handled_in w o now)
kept_handled w None now k h = k
kept_handled w (Some q) now k h = kept_answered w k q (h q refl) q.ask now refl

-- ---- a reply that arrives

-- a reply that is due is to the open request, and the fork wasn't written since
pub due_is : (w : System) (o : OpenRequest) (r : Reply) → is_awaited w o r ≡ true
    → (reply_number r ≡ number_of o.request) × (o.lwt ≡ last_lwt w.fork.documents)
due_is w o r e =
    let p = and_parts _ _ e in
    let q = and_parts _ _ p.0 in
    let x : r.epoch ≡ o.request.epoch = eqb-true _ _ q.0 in
    let y : r.n ≡ o.request.n = eqb-true _ _ q.1 in
    (λ i. (x i, y i), sym (eqb-true _ _ p.1))

module _ (resolve : Resolve) (law : KeepsKey resolve) (w : System) (k : IsKept w) where
  abbrev IsPushSound : List State → Documents → List PushRow → Type 0
  IsPushSound cs c rows =
      Wrote w.fork.documents (resolutions resolve cs rows) c
      → IsSoundSide c (with_learnt w.known (map (real_state cs) rows))
      (pushed_place w.fork.documents w.up rows)

  push_sound : (cs : List State) (c : Documents) (rows : List PushRow)
      → IsCurrent w.fork.documents w.known w.down (Push rows) → IsPushSound cs c rows
  push_sound cs c rows current =
      subst (IsPushSound cs c)
      (sym (current_push w.fork.documents w.known w.down rows current))
      (push_fork_side w.fork.documents w.known w.up k.fork_keys k.sound.fork_side current.0
      current.1
      resolve law cs c)

  kept_taken_push : (rows : List PushRow) (cs : List State) (o : Option Held) (now : ℕ)
      → IsCurrent w.fork.documents w.known w.down (Push rows)
      → IsPushAnswered w.master.documents w.down rows cs
      → write w.fork (resolutions resolve cs rows) now ≡ o
      → IsKept (with_taking w (record {
        rows = resolutions resolve cs rows;
        known = map (real_state cs) rows;
        up = pushed_place w.fork.documents w.up rows;
        down = w.down;
      }) o)
  kept_taken_push rows cs None now current answered e = k
  kept_taken_push rows cs (Some c) now current answered e =
      let wrote = write_wrote w.fork (resolutions resolve cs rows) now c e in
      record {
        sound = record {
          fork_side = push_sound cs c.documents rows current wrote;
          master_side = push_master_side w.master.documents w.known w.down k.sound.master_side rows
              cs answered;
        };
        fork_keys = wrote.by_key k.fork_keys;
        master_keys = k.master_keys;
        differ = k.differ;
        past = k.past;
        linked = k.linked;
        asked = λ o e. not_none e;
        good = λ o e. not_none e;
      }

  -- nothing is pending where the request is a pull
  pub all_known : (p : Option Place) (b : ℕ)
      → IsCurrent w.fork.documents w.known w.down (Pull p b)
      → (key : List ℕ) (d : Stored) → named w.fork.documents key ≡ Some d
      → named w.known key ≡ Some d.state
  all_known p b current =
      none_pending-known w.fork.documents w.known k.fork_keys
      (current_pull w.fork.documents w.known w.down p b k.fork_keys current)

  kept_taken_pull : (p : Option Place) (b : ℕ) (ss : List State) (to : Option Place)
      (o : Option Held) (now : ℕ) → IsCurrent w.fork.documents w.known w.down (Pull p b)
      → IsPullAnswered w.master.documents w.down ss to
      → Agree ss
      → write w.fork (differences w.fork.documents ss) now ≡ o
      → IsKept (with_taking w (record {
        rows = differences w.fork.documents ss;
        known = ss;
        up = w.up;
        down = to;
      }) o)
  kept_taken_pull p b ss to None now current page agree e = k
  kept_taken_pull p b ss to (Some c) now current page agree e =
      let wrote = write_wrote w.fork (differences w.fork.documents ss) now c e in
      record {
        sound = record {
          fork_side = pull_fork_side w.fork.documents w.known (all_known p b current) ss agree
              c.documents wrote w.up k.sound.fork_side;
          master_side = pull_master_side w.master.documents w.known w.down k.sound.master_side
              k.master_keys ss to page agree;
        };
        fork_keys = wrote.by_key k.fork_keys;
        master_keys = k.master_keys;
        differ = k.differ;
        past = k.past;
        linked = k.linked;
        asked = λ o e. not_none e;
        good = λ o e. not_none e;
      }

  kept_taken : (ask : AskKind) (body : Body) (master : Documents) (now : ℕ)
      → IsCurrent w.fork.documents w.known w.down ask
      → IsAnswered w.master.documents w.down ask body → Tells w.known ask body master
      → IsKept (taken_in w (taking resolve w.fork.documents w.up w.down ask body) now)
  kept_taken (Push rows) (Conflicts cs) master now current answered tells =
      kept_taken_push rows cs (write w.fork (resolutions resolve cs rows) now) now current answered
      refl
  kept_taken (Pull p b) (Docs ss to) master now current answered tells =
      kept_taken_pull p b ss to (write w.fork (differences w.fork.documents ss) now) now current
      answered tells.0 refl
  kept_taken (Push rows) (Docs ss to) master now current answered tells = k
  kept_taken (Pull p b) (Conflicts cs) master now current answered tells = k

  -- a reply that is due is taken while its request is current, and is good
  pub due : (o : OpenRequest) (r : MadeReply) → w.waiting ≡ Some o → Member r w.replies
      → is_awaited w o r.reply ≡ true
      → IsCurrent w.fork.documents w.known w.down o.request.ask
      × IsGood w.master.documents w.known w.down o.request.ask r
  due o r e m h =
      let p = due_is w o r.reply h in ((k.asked o e).current p.1, k.good o e r m p.0)

  kept_arrived : (o : Option OpenRequest) (r : Option MadeReply) (now : ℕ) → w.waiting ≡ o
      → ((x : MadeReply) → r ≡ Some x → Member x w.replies)
      → IsKept (arrived_in resolve w o r now)
  kept_arrived None r now e m = k
  kept_arrived (Some o) None now e m = k
  kept_arrived (Some o) (Some r) now e m =
      elim (is_awaited w o r.reply) as (λ b. is_awaited w o r.reply ≡ b
      → IsKept (cond b
      (taken_in w (taking resolve w.fork.documents w.up w.down o.request.ask r.reply.body) now)
      w)) [
        | true ↦ (λ h.
            let g = due o r e (m r refl) h in
            kept_taken o.request.ask r.reply.body r.master.documents now g.0 g.1.answered g.1.tells)
        | false ↦ (λ h. k)
      ] refl

  kept_fork_by : (ss : List State) (now : ℕ) (o : Option Held) → write w.fork ss now ≡ o
      → IsKept (with_fork w o)
  kept_fork_by ss now None e = k
  kept_fork_by ss now (Some c) e = kept_fork w ss c k (write_wrote w.fork ss now c e)

  kept_master_by : (ss : List State) (now : ℕ) (o : Option Held) → write w.master ss now ≡ o
      → IsKept (with_master w o)
  kept_master_by ss now None e = k
  kept_master_by ss now (Some c) e = kept_master w ss c k (write_wrote w.master ss now c e)

  -- each step keeps it
  pub kept_after : (s : Step) → IsLawfulStep s → IsKept (system_after resolve w s)
  kept_after (CommitFork ss now) l = kept_fork_by ss now (write w.fork ss now) refl
  kept_after (CommitMaster ss now) l = kept_master_by ss now (write w.master ss now) refl
  kept_after (Ask batch) l = kept_made w batch l k
  kept_after (Handle which now) l =
      kept_handled w (slice_get (take w.since w.requests) which) now k
      (λ q e. from_slice_take w.since w.requests which q e)
  kept_after (Arrive which now) l =
      kept_arrived w.waiting (slice_get w.replies which) now refl
      (λ r e. from_slice_get w.replies which r e)
  kept_after Restart l = kept_restart w k
  kept_after (Migrate change) l = kept_migrated w change l k
