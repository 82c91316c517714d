-- A connection from its parts.
use Rattle.std.proofs.Common.{◌≡◌, ◌∙◌, refl, sym, ap, subst, ℕ, suc, ◌+◌, ◌-◌, ◌<◌, ◌≤◌, List, [], ◌++◌, length, drop, arith, append_assoc, append-nil, add-zero}
use Rattle.std.proofs.Math.Seq.{drop-append_seam}
use Rattle.rx_collection.specs.Held.{Held}
use Rattle.rx_serve.specs.Answered.{Commits, Continues, HoldsForSome, LeavesSome}
use Rattle.rx_serve.specs.Course.{Standing, Joins, Serves, EndsFor, Breaks, EndsSo, Halts}
use Rattle.rx_serve.specs.Ends.{joined_since, Connection, IsServed, IsCutOff, IsStopped, EndsBy}
use Rattle.rx_serve.specs.Served.{Served, ends_here, after_replies, served, served_first, most_requests}
use Rattle.rx_serve.specs.declared.ended.Why.{Why}
use Rattle.rx_serve.specs.declared.ended.Why.TheVariants as why

-- ---- parts that join

pub since : (old new more : List ℕ) → new ≡ old ++ more → joined_since old new ≡ more
since old new more is = ap (drop (length old)) is ∙ drop-append_seam old more

-- what joined, as it is told at the end
pub all_since : (old new : List ℕ) → Continues old new → new ≡ old ++ joined_since old new
all_since old new h = h.1 ∙ ap (λ v. old ++ v) (sym (since old new h.0 h.1))

pub none_since : (old : List ℕ) → old ≡ old ++ joined_since old old
none_since old = all_since old old ([], sym (append-nil old))

-- nothing was served yet
no_replies : (next : Served) → next ≡ after_replies 0 [] [] next
no_replies next =
    ap (λ n. record {
      after = next.after;
      commits = next.commits;
      replies = n;
      why = next.why;
      due = next.due;
    })
    (none next.replies)
  where
    none : (n : ℕ) → n ≡ 0 + n
    none n = omega arith

serves_none : (s : Standing) (Holds : Commits → Type 0) → Holds [] → Serves 0 Holds s s
serves_none s Holds holds = record {
  joins = record {
    bytes = [];
    commits = [];
    joined = [];
    holds = holds;
    sent = sym (append-nil s.sent);
    moments = sym (append-nil s.moments);
  };
  going = λ k later.
      ap (λ n. served_first n s.collection later s.coming) (none k)
      ∙ no_replies (served_first k s.collection later s.coming);
}
  where
    none : (k : ℕ) → 0 + k ≡ k
    none k = omega arith

-- nothing was received yet
pub serves_begun : (c : Held) (unread coming sent moments : List ℕ) (Holds : Commits → Type 0)
    → Holds [] → unread ≡ []
    → Serves 0 Holds
    (record { collection = c; coming = coming; sent = sent; moments = moments })
    (record { collection = c; coming = unread ++ coming; sent = sent; moments = moments })
serves_begun c unread coming sent moments Holds holds none =
    let a : Standing = record { collection = c; coming = coming; sent = sent; moments = moments } in
    let P : List ℕ → Type 0 = λ v. Serves 0 Holds a
    (record { collection = c; coming = v ++ coming; sent = sent; moments = moments }) in
    subst P (sym none) (serves_none a Holds holds)

pub continues_more : (a b c : List ℕ) → Continues a b → Continues b c → Continues a c
continues_more a b c first second = (
  first.0 ++ second.0,
  second.1 ∙ ap (λ v. v ++ second.0) first.1 ∙ append_assoc a first.0 second.0,
)

-- what was sent as it ended
pub sent_at_end : (w : Why) (n : ℕ) (Holds : Commits → Type 0) (a b : Standing)
    → EndsSo w n Holds a b → Continues a.sent b.sent
sent_at_end why.Wire n Holds a b h = (h.joins.bytes, h.joins.sent)
sent_at_end why.Peer n Holds a b h = (h.1.joins.bytes, h.1.joins.sent)
sent_at_end why.Request n Holds a b h = (h.1.joins.bytes, h.1.joins.sent)
sent_at_end why.Clock n Holds a b h = (h.1.joins.bytes, h.1.joins.sent)

replies_more : (i j : ℕ) (xs ys : Commits) (bs cs : List ℕ) (next : Served)
    → after_replies i xs bs (after_replies j ys cs next)
    ≡ after_replies (i + j) (xs ++ ys) (bs ++ cs) next
replies_more i j xs ys bs cs next =
    ap (λ n. record {
      after = next.after;
      commits = xs ++ (ys ++ next.commits);
      replies = n;
      why = next.why;
      due = bs ++ (cs ++ next.due);
    })
    (sum next.replies)
    ∙ ap (λ v. record {
      after = next.after;
      commits = v;
      replies = (i + j) + next.replies;
      why = next.why;
      due = bs ++ (cs ++ next.due);
    })
    (sym (append_assoc xs ys next.commits))
    ∙ ap (λ v. record {
      after = next.after;
      commits = (xs ++ ys) ++ next.commits;
      replies = (i + j) + next.replies;
      why = next.why;
      due = v;
    })
    (sym (append_assoc bs cs next.due))
  where
    sum : (n : ℕ) → i + (j + n) ≡ (i + j) + n
    sum n = omega arith

-- what holds over a part and then the next holds over both
abbrev pub Join : (Commits → Type 0) → (Commits → Type 0) → (Commits → Type 0) → Type 0
Join H I J = (first second : Commits) → H first → I second → J (first ++ second)

-- and where more may have been done behind the next
abbrev pub JoinLast : (Commits → Type 0) → (Commits → Commits → Type 0)
    → (Commits → Commits → Type 0) → Type 0
JoinLast H I J = (first second more : Commits) → H first → I second more → J (first ++ second) more

-- one part after another
abbrev joins_more : (H I J : Commits → Type 0) → Join H I J → (a b c : Standing) → Joins H a b
    → Joins I b c → Joins J a c
joins_more H I J join a b c first second = record {
  bytes = first.bytes ++ second.bytes;
  commits = first.commits ++ second.commits;
  joined = first.joined ++ second.joined;
  holds = join first.commits second.commits first.holds second.holds;
  sent = second.sent ∙ ap (λ v. v ++ second.bytes) first.sent
      ∙ append_assoc a.sent first.bytes second.bytes;
  moments = second.moments ∙ ap (λ v. v ++ second.joined) first.moments
      ∙ append_assoc a.moments first.joined second.joined;
}

module _ (i : ℕ) (H : Commits → Type 0) (a b : Standing) (first : Serves i H a b) where
  -- what is served from the first on is these replies, and then what is served from the second on
  served_then : (n k : ℕ) (joined later : List ℕ) → n ≡ i + k
      → served_first n a.collection ((first.joins.joined ++ joined) ++ later) a.coming
      ≡ after_replies i first.joins.commits first.joins.bytes
      (served_first k b.collection (joined ++ later) b.coming)
  served_then n k joined later is =
      ap (λ m. served_first m a.collection ((first.joins.joined ++ joined) ++ later) a.coming) is
      ∙ ap (λ v. served_first (i + k) a.collection v a.coming)
      (append_assoc first.joins.joined joined later)
      ∙ first.going k (joined ++ later)

  pub serves_more : (I J : Commits → Type 0) → Join H I J → (j : ℕ) (c : Standing)
      → Serves j I b c → Serves (i + j) J a c
  serves_more I J join j c second = record {
    joins = joins_more H I J join a b c first.joins second.joins;
    going = λ k later.
        served_then ((i + j) + k) (j + k) second.joins.joined later (sum k)
        ∙ ap (after_replies i first.joins.commits first.joins.bytes) (second.going k later)
        ∙ replies_more i j first.joins.commits second.joins.commits first.joins.bytes
        second.joins.bytes (served_first k c.collection later c.coming);
  }
    where
      sum : (k : ℕ) → (i + j) + k ≡ i + (j + k)
      sum k = omega arith

-- it holds over some commits, part after part
pub holds_more : (H I J : Commits → Type 0) → Join H I J → HoldsForSome H → HoldsForSome I
    → HoldsForSome J
holds_more H I J join first second =
    (first.0 ++ second.0, join first.0 second.0 first.1 second.1)

pub leaves_more : (H : Commits → Type 0) (I J : Commits → Commits → Type 0) → JoinLast H I J
    → HoldsForSome H → LeavesSome I → LeavesSome J
leaves_more H I J join first last =
    (first.0 ++ last.0, last.1, join first.0 last.0 last.1 first.1 last.2)

-- ---- the whole connection

-- with what joined since its beginning
abbrev pub between : Standing → Standing → Connection
between a c = record {
  before = a.collection;
  after = c.collection;
  moments = joined_since a.moments c.moments;
  coming = a.coming;
  sent = joined_since a.sent c.sent;
}

-- the same, by what joined
abbrev by_parts : (a c : Standing) → List ℕ → List ℕ → Connection
by_parts a c moments sent = record {
  before = a.collection;
  after = c.collection;
  moments = moments;
  coming = a.coming;
  sent = sent;
}

same_parts : (a c : Standing) (moments sent : List ℕ) → c.moments ≡ a.moments ++ moments
    → c.sent ≡ a.sent ++ sent → by_parts a c moments sent ≡ between a c
same_parts a c moments sent more told =
    ap (λ v. by_parts a c v sent) (sym (since a.moments c.moments moments more))
    ∙ ap (by_parts a c (joined_since a.moments c.moments)) (sym (since a.sent c.sent sent told))

none_plus : (n : ℕ) → n ≡ n + 0
none_plus n = omega arith

left_after : (i : ℕ) → i < most_requests → most_requests ≡ i + suc ((most_requests - i) - 1)
left_after i less = omega (arith, less)

left_at : (i : ℕ) → i ≤ most_requests → most_requests ≡ i + (most_requests - i)
left_at i less = omega (arith, less)

module _ (i : ℕ) (H : Commits → Type 0) (a b : Standing) (first : Serves i H a b) where
  abbrev replies : List ℕ
  replies = first.joins.bytes

  abbrev commits : Commits
  commits = first.joins.commits

  -- all that is served, with moments that joined since
  served_at : (n k : ℕ) (joined : List ℕ) → n ≡ i + k
      → served_first n a.collection (first.joins.joined ++ joined) a.coming
      ≡ after_replies i commits replies (served_first k b.collection (joined ++ []) b.coming)
  served_at n k joined is =
      ap (λ v. served_first n a.collection v a.coming)
      (sym (append-nil (first.joins.joined ++ joined)))
      ∙ served_then i H a b first n k joined [] is

  first_at : (joined : List ℕ)
      → served_first i a.collection (first.joins.joined ++ joined) a.coming
      ≡ after_replies i commits replies (ends_here b.collection why.Peer [])
  first_at joined = served_at i 0 joined (none_plus i)

  module _ (I J : Commits → Type 0) (join : Join H I J) where
    -- it ended for that reason
    pub ended_for : (w : Why) (n : ℕ) (c : Standing) → n ≡ 0 → i < most_requests → EndsFor w I b c
        → IsServed w (i + n) J (between a c)
    ended_for w n c none less second =
        let joins = joins_more H I J join a b c first.joins second.joins in
        let all = served_at most_requests (suc ((most_requests - i) - 1)) second.joins.joined
        (left_after i less)
        ∙ ap (after_replies i commits replies) (second.ends ((most_requests - i) - 1) []) in
        let P : Connection → Type 0 = λ v. IsServed w (i + n) J v in
        subst P (same_parts a c joins.joined joins.bytes joins.moments joins.sent)
        (record {
          after = ap (λ (x : Served). x.after) all;
          answered = ap (λ (x : Served). x.replies) all ∙ ap (λ m. i + m) (sym none);
          ended = ap (λ (x : Served). x.why) all;
          sent = ap (λ (x : Served). x.due) all;
          holds = subst J
              (ap (λ v. commits ++ v) second.none ∙ sym (ap (λ (x : Served). x.commits) all))
              joins.holds;
        })

    -- the wire failed
    pub cut_off : (n : ℕ) (c : Standing) → i < most_requests → Breaks n I b c
        → IsCutOff (i + n) J (between a c)
    cut_off n c less second =
        let joins = joins_more H I J join a b c first.joins second.joins in
        let joined = second.joins.joined in
        let front = second.front ((most_requests - i) - 1) [] in
        let within = second.within [] in
        let so_far = served_at (i + second.lines) second.lines joined refl in
        let P : Connection → Type 0 = λ v. IsCutOff (i + n) J v in
        subst P (same_parts a c joins.joined joins.bytes joins.moments joins.sent)
        (record {
          front = (
            front.0,
            ap (λ (x : Served). x.due)
                (served_at most_requests (suc ((most_requests - i) - 1)) joined (left_after i less))
                ∙ ap (λ v. replies ++ v) front.1
                ∙ sym (append_assoc replies second.joins.bytes front.0),
          );
          answered = ap (λ (x : Served). x.replies) (served_at (i + n) n joined refl)
              ∙ ap (λ m. i + m) (second.answered []);
          after = ap (λ (x : Served). x.after) (served_at (i + n) n joined refl)
              ∙ second.after [];
          holds = subst J
              (sym (ap (λ (x : Served). x.commits) (served_at (i + n) n joined refl)
              ∙ ap (λ v. commits ++ v) (second.committed [])))
              joins.holds;
          whole = (
            i,
            omega arith,
            omega (arith, second.few),
            (
              second.joins.bytes,
              ap (λ v. v ++ second.joins.bytes)
                  (sym (ap (λ (x : Served). x.due) (first_at joined) ∙ append-nil replies)),
            ),
          );
          lines = i + second.lines;
          within = (
            within.0,
            ap (λ (x : Served). x.due) so_far ∙ ap (λ v. replies ++ v) within.1
                ∙ sym (append_assoc replies second.joins.bytes within.0),
          );
          replied = ap (λ (x : Served). x.replies) so_far ∙ ap (λ m. i + m) (second.replied []);
        })

    -- it ended so
    pub ended_so : (w : Why) (n : ℕ) (c : Standing) → i < most_requests → EndsSo w n I b c
        → EndsBy w (i + n) J (between a c)
    ended_so why.Wire n c less second = cut_off n c less second
    ended_so why.Peer n c less second = ended_for why.Peer n c second.0 less second.1
    ended_so why.Request n c less second = ended_for why.Request n c second.0 less second.1
    ended_so why.Clock n c less second = ended_for why.Clock n c second.0 less second.1

  -- a stop came
  pub stopped : (I J : Commits → Commits → Type 0) → JoinLast H I J → (c : Standing)
      → i ≤ most_requests → Halts I b c → IsStopped J (between a c)
  stopped I J join c few second =
      let joined = second.joined in
      let P : Connection → Type 0 = λ v. IsStopped J v in
      let sure : (served_first i a.collection (first.joins.joined ++ joined) a.coming).commits
      ≡ commits = ap (λ (x : Served). x.commits) (first_at joined) ∙ append-nil commits in
      subst P
      (same_parts a c (first.joins.joined ++ joined) replies
      (second.moments ∙ ap (λ v. v ++ joined) first.joins.moments
      ∙ append_assoc a.moments first.joins.joined joined)
      (second.sent ∙ first.joins.sent))
      (record {
        n = i;
        answered = ap (λ (x : Served). x.replies) (first_at joined) ∙ add-zero i;
        sent = ap (λ (x : Served). x.due) (first_at joined) ∙ append-nil replies;
        front = (
          (served_first (most_requests - i) b.collection (joined ++ []) b.coming).due,
          ap (λ (x : Served). x.due)
              (served_at most_requests (most_requests - i) joined (left_at i few)),
        );
        begun = i + second.n;
        no_fewer = omega arith;
        one_more = omega (arith, second.few);
        next = second.sure;
        more = second.more;
        due = ap (λ (x : Served). x.commits) (served_at (i + second.n) second.n joined refl)
            ∙ ap (λ v. commits ++ v) (second.committed [])
            ∙ sym (append_assoc commits second.sure second.more)
            ∙ ap (λ v. (v ++ second.sure) ++ second.more) (sym sure);
        holds = subst (λ v. J (v ++ second.sure) second.more) (sym sure)
            (join commits second.sure second.more first.joins.holds second.holds);
      })

-- so many requests were answered as a connection has
pub ended_full : (n : ℕ) → n ≡ most_requests → (H : Commits → Type 0) (a b : Standing)
    → Serves n H a b → IsServed why.Peer most_requests H (between a b)
ended_full n full H a b all =
    let Q : ℕ → Type 0 = λ m. Serves m H a b in
    let first = subst Q full all in
    let joins = first.joins in
    let whole = ap (λ v. served_first most_requests a.collection v a.coming)
    (sym (append-nil joins.joined)) ∙ first.going 0 [] in
    let P : Connection → Type 0 = λ v. IsServed why.Peer most_requests H v in
    subst P (same_parts a b joins.joined joins.bytes joins.moments joins.sent)
    (record {
      after = ap (λ (x : Served). x.after) whole;
      answered = ap (λ (x : Served). x.replies) whole;
      ended = ap (λ (x : Served). x.why) whole;
      sent = ap (λ (x : Served). x.due) whole ∙ append-nil joins.bytes;
      holds = subst H
          (sym (ap (λ (x : Served). x.commits) whole ∙ append-nil joins.commits)) joins.holds;
    })

-- nothing was done
pub stopped_first : (c : Held) (coming sent moments : List ℕ) (Holds : Commits → Commits → Type 0)
    → Holds [] []
    → IsStopped Holds (between
    (record { collection = c; coming = coming; sent = sent; moments = moments })
    (record { collection = c; coming = coming; sent = sent; moments = moments }))
stopped_first c coming sent moments Holds holds =
    let a : Standing = record { collection = c; coming = coming; sent = sent; moments = moments } in
    let P : Connection → Type 0 = λ v. IsStopped Holds v in
    subst P (same_parts a a [] [] (sym (append-nil moments)) (sym (append-nil sent)))
    (record {
      n = 0;
      answered = refl;
      sent = refl;
      front = ((served c [] coming).due, refl);
      begun = 0;
      no_fewer = omega arith;
      one_more = omega arith;
      next = [];
      more = [];
      due = refl;
      holds = holds;
    })
