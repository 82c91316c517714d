-- One line more of a connection.
use Rattle.std.proofs.Common.{◌≡◌, ◌∙◌, refl, sym, ap, subst, ℕ, suc, ◌+◌, true, List, [], ◌∷◌, ◌++◌, Option, Some, None, Ok, Err, arith, ⊎_elim, append_assoc, append-nil}
use Rattle.rx_collection.specs.Held.{Held}
use Rattle.rx_outside.specs.Sink.{WritesFront}
use Rattle.rx_wire.specs.Fault.{fault_text}
use Rattle.rx_wire.specs.Spelling.{request_of}
use Rattle.rx_wire.specs.Writing.{reply_text}
use Rattle.rx_wire.specs.declared.fault.WireFault.{WireFault}
use Rattle.rx_wire.specs.declared.fault.WireFault.TheVariants.{TooLong}
use Rattle.rx_wire.specs.declared.message.AskKind.{AskKind}
use Rattle.rx_wire.specs.declared.message.AskKind.TheVariants.{Push, Pull}
use Rattle.rx_wire.specs.declared.message.Reply.{Reply}
use Rattle.rx_wire.specs.declared.message.Request.{Request}
use Rattle.rx_serve.specs.Answered.{answered_at, commit_by, commit_if, commit_at, Commits, Gives, AnswersAsk, Answers, StopsAsk, Stops, Continues, HoldsForSome}
use Rattle.rx_serve.specs.Course.{Standing, Serves, EndsFor, Breaks, EndsSo, Halts, Steps}
use Rattle.rx_serve.specs.declared.ended.Ended.{Ended}
use Rattle.rx_serve.specs.Incoming.{IsNext}
use Rattle.rx_serve.specs.Lines.{is_within}
use Rattle.rx_serve.specs.Refused.{IsToldFor}
use Rattle.rx_serve.specs.Served.{Served, as_line, ends_here, after_replies, moment_for, moments_after, reply_then, line_then, served_first}
use Rattle.rx_serve.specs.declared.ended.Why.{Why}
use Rattle.rx_serve.specs.declared.ended.Why.TheVariants as why
use Rattle.rx_serve.specs.declared.incoming.Next.TheVariants as next
use Rattle.rx_serve.proofs.Cuts.{served_line, served_end, served_long}

-- ---- what an answer is

-- what is served of a request, and then
abbrev reply_to : AskKind → Request → Held → List ℕ → (Held → List ℕ → Served) → Served
reply_to ask q c moments then =
    reply_then c (commit_by c ask (moment_for ask moments))
    (answered_at c (moment_for ask moments) q)
    (λ after. then after (moments_after ask moments))

gives_clock : (o : Option (Reply × Held)) (commits : Commits) (old new : Held)
    (then : Held → Served)
    → Gives o old None new → reply_then old commits o then ≡ ends_here new why.Clock []
gives_clock None commits old new then g = ap (λ (c : Held). ends_here c why.Clock []) (sym g.1)
gives_clock (Some p) commits old new then g = cc (g.0)

gives_reply : (o : Option (Reply × Held)) (commits : Commits) (old new : Held)
    (then : Held → Served) (reply : Reply) → Gives o old (Some reply) new
    → reply_then old commits o then
    ≡ after_replies 1 commits (as_line (reply_text reply)) (then new)
gives_reply None commits old new then reply g = cc (g.0)
gives_reply (Some p) commits old new then reply g =
    let e : reply ≡ p.0 = cc (g.0) in
    ap (λ (x : Reply). after_replies 1 commits (as_line (reply_text x)) (then p.1)) (sym e)
    ∙ ap (λ (c : Held). after_replies 1 commits (as_line (reply_text reply)) (then c)) (sym g.1)

holds_clock : (o : Option (Reply × Held)) (commits : Commits) (old new : Held)
    (Holds : Commits → Type 0) → Gives o old None new → Holds (commit_if o commits) → Holds []
holds_clock None commits old new Holds g h = h
holds_clock (Some p) commits old new Holds g h = cc (g.0)

holds_reply : (o : Option (Reply × Held)) (commits : Commits) (old new : Held) (reply : Reply)
    (Holds : Commits → Type 0) → Gives o old (Some reply) new → Holds (commit_if o commits)
    → Holds commits
holds_reply None commits old new reply Holds g h = cc (g.0)
holds_reply (Some p) commits old new reply Holds g h = h

-- the clock ended, whatever moments come later
abbrev EndsAt : AskKind → Request → Held → Held → List ℕ → List ℕ → (Commits → Type 0) → Type 0
EndsAt ask q old new before after Holds =
    (joined : List ℕ) × (after ≡ before ++ joined) × Holds []
    × ((then : Held → List ℕ → Served) (later : List ℕ)
    → reply_to ask q old (joined ++ later) then ≡ ends_here new why.Clock [])

clock_at : (ask : AskKind) (q : Request) (old new : Held) (before after : List ℕ)
    (Holds : Commits → Type 0) → AnswersAsk ask q old before None new after Holds
    → EndsAt ask q old new before after Holds
clock_at (Push rows) q old new before after Holds h = (
  h.0 ∷ [],
  h.1,
  holds_clock (answered_at old h.0 q) (commit_by old (Push rows) h.0) old new Holds h.2.gives
      h.2.holds,
  λ then later. gives_clock (answered_at old h.0 q) (commit_by old (Push rows) h.0) old new
      (λ c. then c later) h.2.gives,
)
clock_at (Pull place batch) q old new before after Holds h = (
  [],
  h.0 ∙ sym (append-nil before),
  holds_clock (answered_at old 0 q) [] old new Holds h.1.gives h.1.holds,
  λ then later. gives_clock (answered_at old 0 q) [] old new (λ c. then c later) h.1.gives,
)

-- the reply, whatever moments come later
abbrev RepliesAt : AskKind → Request → Held → Held → List ℕ → List ℕ → Reply → (Commits → Type 0)
    → Type 0
RepliesAt ask q old new before after reply Holds =
    (joined : List ℕ) × (after ≡ before ++ joined) × (commits : Commits) × Holds commits
    × ((then : Held → List ℕ → Served) (later : List ℕ)
    → reply_to ask q old (joined ++ later) then
    ≡ after_replies 1 commits (as_line (reply_text reply)) (then new later))

reply_at : (ask : AskKind) (q : Request) (old new : Held) (before after : List ℕ) (reply : Reply)
    (Holds : Commits → Type 0) → AnswersAsk ask q old before (Some reply) new after Holds
    → RepliesAt ask q old new before after reply Holds
reply_at (Push rows) q old new before after reply Holds h = (
  h.0 ∷ [],
  h.1,
  commit_by old (Push rows) h.0,
  holds_reply (answered_at old h.0 q) (commit_by old (Push rows) h.0) old new reply Holds h.2.gives
      h.2.holds,
  λ then later. gives_reply (answered_at old h.0 q) (commit_by old (Push rows) h.0) old new
      (λ c. then c later) reply h.2.gives,
)
reply_at (Pull place batch) q old new before after reply Holds h = (
  [],
  h.0 ∙ sym (append-nil before),
  [],
  holds_reply (answered_at old 0 q) [] old new reply Holds h.1.gives h.1.holds,
  λ then later. gives_reply (answered_at old 0 q) [] old new (λ c. then c later) reply h.1.gives,
)

-- and moments joined
pub joined_at : (ask : AskKind) (q : Request) (old : Held) (before : List ℕ) (reply : Option Reply)
    (new : Held) (after : List ℕ) (Holds : Commits → Type 0)
    → AnswersAsk ask q old before reply new after Holds → Continues before after
joined_at (Push rows) q old before reply new after Holds h = (h.0 ∷ [], h.1)
joined_at (Pull place batch) q old before reply new after Holds h =
    ([], h.0 ∙ sym (append-nil before))

-- and it holds over some commits
pub some_at : (ask : AskKind) (q : Request) (old : Held) (before : List ℕ) (reply : Option Reply)
    (new : Held) (after : List ℕ) (Holds : Commits → Type 0)
    → AnswersAsk ask q old before reply new after Holds → HoldsForSome Holds
some_at (Push rows) q old before reply new after Holds h =
    (commit_at old h.0 q (Push rows), h.2.holds)
some_at (Pull place batch) q old before reply new after Holds h =
    (commit_at old 0 q (Pull place batch), h.1.holds)

one_more : (k : ℕ) → 1 + k ≡ suc k
one_more k = omega arith

-- a standing with a request to come, and one behind it
abbrev pub asked : Held → List ℕ → List ℕ → List ℕ → List ℕ → Standing
asked c line rest sent moments =
    record { collection = c; coming = line ++ 10 ∷ rest; sent = sent; moments = moments }

abbrev pub behind : Held → List ℕ → List ℕ → List ℕ → Standing
behind c rest sent moments =
    record { collection = c; coming = rest; sent = sent; moments = moments }

-- a stop before anything was done
pub halts_none : (a b : Standing) (Holds : Commits → Commits → Type 0) → b.sent ≡ a.sent
    → b.moments ≡ a.moments → Holds [] [] → Halts Holds a b
halts_none a b Holds sent moments holds = record {
  n = 0;
  few = omega arith;
  sure = [];
  more = [];
  joined = [];
  holds = holds;
  sent = sent;
  moments = moments ∙ sym (append-nil a.moments);
  committed = λ later. refl;
}

-- ---- a request

module _
    (q : Request) (old new : Held) (before after line rest : List ℕ) (Holds : Commits → Type 0)
    (within : is_within line ≡ true) (is : request_of old.schema line ≡ Ok q)
  where
    served_so : (k : ℕ) (moments : List ℕ)
        → served_first (suc k) old moments (line ++ 10 ∷ rest)
        ≡ reply_to q.ask q old moments (λ c later. served_first k c later rest)
    served_so k moments =
        served_line k old moments line rest within
        ∙ ap (λ r. line_then old moments r (λ c later. served_first k c later rest)) is

    -- it found no write time
    pub ends_by_clock : (sent : List ℕ) (o : Option Reply) → o ≡ None
        → Answers q old before o new after Holds
        → EndsFor why.Clock Holds (asked old line rest sent before) (behind new rest sent after)
    ends_by_clock sent o none answers =
        let P : Option Reply → Type 0 = λ r. Answers q old before r new after Holds in
        let at = clock_at q.ask q old new before after Holds (subst P none answers) in
        record {
          joins = record {
            bytes = [];
            commits = [];
            joined = at.0;
            holds = at.2;
            sent = sym (append-nil sent);
            moments = at.1;
          };
          none = refl;
          ends = λ k later.
              served_so k (at.0 ++ later) ∙ at.3 (λ c more. served_first k c more rest) later;
        }

    module _
        (reply : Reply) (o : Option Reply) (some : o ≡ Some reply)
        (answers : Answers q old before o new after Holds) (sent sent' : List ℕ)
      where
        abbrev found : RepliesAt q.ask q old new before after reply Holds
        found =
            let P : Option Reply → Type 0 = λ r. Answers q old before r new after Holds in
            reply_at q.ask q old new before after reply Holds (subst P some answers)

        served_then : (k : ℕ) (later : List ℕ)
            → served_first (suc k) old (found.0 ++ later) (line ++ 10 ∷ rest)
            ≡ after_replies 1 found.2 (as_line (reply_text reply)) (served_first k new later rest)
        served_then k later =
            served_so k (found.0 ++ later) ∙ found.4 (λ c more. served_first k c more rest) later

        committed_one : (later : List ℕ)
            → (served_first 1 old (found.0 ++ later) (line ++ 10 ∷ rest)).commits ≡ found.2
        committed_one later =
            ap (λ (x : Served). x.commits) (served_then 0 later) ∙ append-nil found.2

        -- its reply was sent
        pub serves_one : sent' ≡ sent ++ as_line (reply_text reply)
            → Serves 1 Holds (asked old line rest sent before) (behind new rest sent' after)
        serves_one whole = record {
          joins = record {
            bytes = as_line (reply_text reply);
            commits = found.2;
            joined = found.0;
            holds = found.3;
            sent = whole;
            moments = found.1;
          };
          going = λ k later.
              ap (λ n. served_first n old (found.0 ++ later) (line ++ 10 ∷ rest)) (one_more k)
              ∙ served_then k later;
        }

        -- a front of its reply was sent
        pub breaks_after_one : WritesFront sent sent' (as_line (reply_text reply))
            → Breaks 1 Holds (asked old line rest sent before) (behind new rest sent' after)
        breaks_after_one front = record {
          joins = record {
            bytes = front.0;
            commits = found.2;
            joined = found.0;
            holds = found.3;
            sent = front.3;
            moments = found.1;
          };
          few = omega arith;
          front = λ k later. (
            front.1 ++ (served_first k new later rest).due,
            ap (λ (x : Served). x.due) (served_then k later)
                ∙ ap (λ v. v ++ (served_first k new later rest).due) front.2
                ∙ append_assoc front.0 front.1 (served_first k new later rest).due,
          );
          answered = λ later. ap (λ (x : Served). x.replies) (served_then 0 later);
          after = λ later. ap (λ (x : Served). x.after) (served_then 0 later);
          committed = committed_one;
          lines = 1;
          within = λ later. (
            front.1,
            ap (λ (x : Served). x.due) (served_then 0 later)
                ∙ append-nil (as_line (reply_text reply)) ∙ front.2,
          );
          replied = λ later. ap (λ (x : Served). x.replies) (served_then 0 later);
        }

        -- its reply was not sent, for want of memory
        pub halts_answered : (Leaves : Commits → Commits → Type 0)
            → ((commits : Commits) → Holds commits → Leaves commits []) → sent' ≡ sent
            → Halts Leaves (asked old line rest sent before) (behind new rest sent' after)
        halts_answered Leaves sure unsent = record {
          n = 1;
          few = omega arith;
          sure = found.2;
          more = [];
          joined = found.0;
          holds = sure found.2 found.3;
          sent = unsent;
          moments = found.1;
          committed = λ later. committed_one later ∙ sym (append-nil found.2);
        }

-- ---- a stop

-- the commits of one request
commits_then : (old : Held) (o : Option (Reply × Held)) (commits : Commits) (then : Held → Served)
    → ((c : Held) → (then c).commits ≡ [])
    → (reply_then old commits o then).commits ≡ commit_if o commits
commits_then old None commits then none = refl
commits_then old (Some p) commits then none =
    ap (λ v. commits ++ v) (none p.1) ∙ append-nil commits

module _
    (q : Request) (old new : Held) (before after line rest : List ℕ)
    (Holds : Commits → Commits → Type 0) (within : is_within line ≡ true)
    (is : request_of old.schema line ≡ Ok q) (sent sent' : List ℕ) (unsent : sent' ≡ sent)
  where
    abbrev HaltsHere : Type 0
    HaltsHere = Halts Holds (asked old line rest sent before) (behind new rest sent' after)

    halts_at : (ask : AskKind) → q.ask ≡ ask → StopsAsk ask q old before after Holds → HaltsHere
    halts_at (Push rows) same h =
        ⊎_elim
        (λ none. halts_none (asked old line rest sent before) (behind new rest sent' after) Holds
        unsent none.0 none.1)
        (λ one. record {
          n = 1;
          few = omega arith;
          sure = [];
          more = commit_at old one.0 q (Push rows);
          joined = one.0 ∷ [];
          holds = one.2;
          sent = unsent;
          moments = one.1;
          committed = λ later.
              ap (λ (x : Served). x.commits)
              (served_so q old new before after line rest (λ c. Holds c []) within is 0
              (one.0 ∷ later))
              ∙ ap
              (λ ask. (reply_to ask q old (one.0 ∷ later)
              (λ c more. served_first 0 c more rest)).commits)
              same
              ∙ commits_then old (answered_at old one.0 q) (commit_by old (Push rows) one.0)
              (λ c. served_first 0 c later rest) (λ c. refl);
        })
        h
    halts_at (Pull place batch) same h =
        halts_none (asked old line rest sent before) (behind new rest sent' after) Holds unsent
        h.0 h.1

    -- it was stopped
    pub halts_stopped : Stops q old before after Holds → HaltsHere
    halts_stopped h = halts_at q.ask refl h

-- ---- a line

-- the line that was taken was answered, and then what is behind it is to come
pub line_step : (o : Option Ended) (Holds : Commits → Type 0) (c c' : Held)
    (line line' s unread left left' sent sent' sent'' moments moments' : List ℕ)
    → IsNext next.Line line s (unread ++ left) → line' ≡ line → left' ≡ left → sent' ≡ sent
    → (is_within line' ≡ true → (rest : List ℕ)
    → Steps o Holds (asked c line' rest sent' moments) (behind c' rest sent'' moments'))
    → Steps o Holds (behind c s sent moments) (behind c' (unread ++ left') sent'' moments')
line_step o Holds c c' line line' s unread left left' sent sent' sent'' moments moments' is same
    same_left same_sent steps =
    let rest = unread ++ left in
    let then = behind c' rest sent'' moments' in
    let all : Steps o Holds (asked c line' rest sent' moments) then =
    steps (subst (λ v. is_within v ≡ true) (sym same) is.1) rest in
    let named : Steps o Holds (asked c line rest sent' moments) then =
    subst (λ v. Steps o Holds (asked c v rest sent' moments) then) same all in
    let unsent : Steps o Holds (asked c line rest sent moments) then =
    subst (λ v. Steps o Holds (asked c line rest v moments) then) same_sent named in
    let behind_it : Steps o Holds (asked c line rest sent moments)
    (behind c' (unread ++ left') sent'' moments') =
    subst (λ v. Steps o Holds (asked c line rest sent moments)
    (behind c' (unread ++ v) sent'' moments')) (sym same_left) unsent in
    subst (λ v. Steps o Holds (behind c v sent moments)
    (behind c' (unread ++ left') sent'' moments')) (sym is.0) behind_it

-- ---- no request

-- it is refused whatever moments come
abbrev IsRefusedAt : Held → List ℕ → List ℕ → Type 0
IsRefusedAt c coming text =
    (k : ℕ) (later : List ℕ) → served_first (suc k) c later coming ≡ ends_here c why.Request text

module _
    (c : Held) (coming rest sent sent' moments text : List ℕ) (refused : IsRefusedAt c coming text)
    (Holds : Commits → Type 0) (holds : Holds [])
  where
    breaks_told : WritesFront sent sent' text
        → Breaks 0 Holds
        (record { collection = c; coming = coming; sent = sent; moments = moments })
        (record { collection = c; coming = rest; sent = sent'; moments = moments })
    breaks_told front = record {
      joins = record {
        bytes = front.0;
        commits = [];
        joined = [];
        holds = holds;
        sent = front.3;
        moments = sym (append-nil moments);
      };
      few = omega arith;
      front = λ k later. (front.1, ap (λ (x : Served). x.due) (refused k later) ∙ front.2);
      answered = λ later. refl;
      after = λ later. refl;
      committed = λ later. refl;
      lines = 1;
      within = λ later. (front.1, ap (λ (x : Served). x.due) (refused 0 later) ∙ front.2);
      replied = λ later. ap (λ (x : Served). x.replies) (refused 0 later);
    }

    -- the peer was told, or the wire failed
    pub ends_told : (w : Why) (n : ℕ) → n ≡ 0 → IsToldFor w sent sent' text
        → EndsSo w n Holds
        (record { collection = c; coming = coming; sent = sent; moments = moments })
        (record { collection = c; coming = rest; sent = sent'; moments = moments })
    ends_told why.Request n none told = (
      none,
      record {
        joins = record {
          bytes = text;
          commits = [];
          joined = [];
          holds = holds;
          sent = told;
          moments = sym (append-nil moments);
        };
        none = refl;
        ends = refused;
      },
    )
    ends_told why.Wire n none told =
        let P : ℕ → Type 0 = λ m. Breaks m Holds
        (record { collection = c; coming = coming; sent = sent; moments = moments })
        (record { collection = c; coming = rest; sent = sent'; moments = moments }) in
        subst P (sym none) (breaks_told told)
    ends_told why.Peer n none told = absurd told
    ends_told why.Clock n none told = absurd told

-- a line at fault is refused
pub refused_line : (c : Held) (line rest : List ℕ) (fault : WireFault) → is_within line ≡ true
    → request_of c.schema line ≡ Err fault
    → IsRefusedAt c (line ++ 10 ∷ rest) (as_line (fault_text fault))
refused_line c line rest fault within is k later =
    served_line k c later line rest within
    ∙ ap (λ r. line_then c later r (λ after more. served_first k after more rest)) is

-- what is too long for a line is refused
pub refused_long : (c : Held) (line s s' : List ℕ) → IsNext next.TooLong line s s'
    → IsRefusedAt c s (as_line (fault_text TooLong))
refused_long c line s s' is k later =
    ap (λ v. served_first (suc k) c later v) is.2 ∙ served_long k c later is.0 is.1 is.3 is.4

-- the end of what comes
pub ends_by_peer : (c : Held) (line s s' rest sent sent' moments : List ℕ)
    (Holds : Commits → Type 0) → Holds [] → IsNext next.End line s s'
    → sent' ≡ sent
    → EndsFor why.Peer Holds
    (record { collection = c; coming = s; sent = sent; moments = moments })
    (record { collection = c; coming = rest; sent = sent'; moments = moments })
ends_by_peer c line s s' rest sent sent' moments Holds holds is same = record {
  joins = record {
    bytes = [];
    commits = [];
    joined = [];
    holds = holds;
    sent = same ∙ sym (append-nil sent);
    moments = sym (append-nil moments);
  };
  none = refl;
  ends = λ k later. served_end (suc k) c later s is.0 is.1;
}

-- the wire failed before a line came
pub breaks_unread : (c : Held) (coming rest sent sent' moments : List ℕ)
    (Holds : Commits → Type 0) → Holds [] → sent' ≡ sent
    → Breaks 0 Holds
    (record { collection = c; coming = coming; sent = sent; moments = moments })
    (record { collection = c; coming = rest; sent = sent'; moments = moments })
breaks_unread c coming rest sent sent' moments Holds holds same = record {
  joins = record {
    bytes = [];
    commits = [];
    joined = [];
    holds = holds;
    sent = same ∙ sym (append-nil sent);
    moments = sym (append-nil moments);
  };
  few = omega arith;
  front = λ k later. ((served_first (suc k) c later coming).due, refl);
  answered = λ later. refl;
  after = λ later. refl;
  committed = λ later. refl;
  lines = 0;
  within = λ later. ([], refl);
  replied = λ later. refl;
}
