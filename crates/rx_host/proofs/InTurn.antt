-- Connections that are served in turn.
use Rattle.std.proofs.Common.{◌≡◌, ◌∙◌, refl, sym, ap, subst, ℕ, ◌+◌, List, [], ◌∷◌, ◌++◌, length, true, arith, append-nil, append_assoc}
use Rattle.std.proofs.lemmas.Grind.{flat_map-append}
use Rattle.std.proofs.lemmas.List.{map-append}
use Rattle.rx_collection.specs.Held.{Held}
use Rattle.rx_outside.specs.Failed.{many_more, one_more}
use Rattle.rx_outside.specs.Talk.{Talk}
use Rattle.rx_serve.specs.Answered.{Commits}
use Rattle.rx_serve.specs.Ends.{Connection, EndsBy}
use Rattle.rx_serve.specs.declared.ended.Why.{Why}
use Rattle.rx_serve.specs.declared.ended.Why.TheVariants as why
use Rattle.rx_host.specs.Connections.{AreServedOn, IsServedOn, ServedConnection, coming_in, collection_after, commits_through, connection_line, connection_of, lines_from, moments_of, served_by, served_on, talks_of}
use Rattle.rx_host.specs.Outside.{HaveServed, Outside}
use Rattle.rx_host.proofs.Ends.{ends_too}

-- ---- one

-- what holds of its commits
kept_by : (w : Why) (n : ℕ) (K : Commits → Type 0) (c : Connection) → EndsBy w n K c
    → K (served_by w n c.before c.moments c.coming).commits
kept_by why.Wire n K c ends = ends.holds
kept_by why.Peer n K c ends = ends.holds
kept_by why.Request n K c ends = ends.holds
kept_by why.Clock n K c ends = ends.holds

-- the collection after it
after_by : (w : Why) (n : ℕ) (K : Commits → Type 0) (c : Connection) → EndsBy w n K c
    → c.after ≡ (served_by w n c.before c.moments c.coming).after
after_by why.Wire n K c ends = sym ends.after
after_by why.Peer n K c ends = sym ends.after
after_by why.Request n K c ends = sym ends.after
after_by why.Clock n K c ends = sym ends.after

-- a connection by its talk
pub of_talk : (w : Why) (n : ℕ) (K : Commits → Type 0) (before after : Held)
    (moments coming sent : List ℕ) (t : Talk) → coming ≡ coming_in t → sent ≡ t.sent
    → EndsBy w n K (record {
      before = before;
      after = after;
      moments = moments;
      coming = coming;
      sent = sent;
    })
    → EndsBy w n K (connection_of t moments before after)
of_talk w n K before after moments coming sent t came went ends =
    subst (λ (bs : List ℕ). EndsBy w n K (record {
      before = before;
      after = after;
      moments = moments;
      coming = coming_in t;
      sent = bs;
    })) went
    (subst (λ (bs : List ℕ). EndsBy w n K (record {
      before = before;
      after = after;
      moments = moments;
      coming = bs;
      sent = sent;
    })) came ends)

module _ (before after : Held) (s : ServedConnection) (K : Commits → Type 0)
    (ends : EndsBy s.ended.why s.ended.requests K (connection_of s.talk s.moments before after))
  where
    pub one_after : after ≡ (served_on before s).after
    one_after =
        after_by s.ended.why s.ended.requests K (connection_of s.talk s.moments before after) ends

    pub one_kept : K (served_on before s).commits
    one_kept =
        kept_by s.ended.why s.ended.requests K (connection_of s.talk s.moments before after) ends

    pub one_served : (s.ended.why ≡ why.Wire → s.talk.failed ≡ true) → IsServedOn before s
    one_served failed = record {
      ends = subst (λ (h : Held). EndsBy s.ended.why s.ended.requests (λ commits. Unit {0})
          (connection_of s.talk s.moments before h)) one_after
          (ends_too K (λ commits. Unit {0}) (λ commits holds. tt)
          (connection_of s.talk s.moments before after) s.ended.why s.ended.requests ends);
      failed = failed;
    }

-- ---- some, and then more

each_on : (c : Held) (xs ys : List ServedConnection) → AreServedOn c xs
    → AreServedOn (collection_after c xs) ys → AreServedOn c (xs ++ ys)
each_on c [] ys first next = next
each_on c (x ∷ xs) ys first next = (first.0, each_on (served_on c x).after xs ys first.1 next)

after_on : (c : Held) (xs ys : List ServedConnection)
    → collection_after c (xs ++ ys) ≡ collection_after (collection_after c xs) ys
after_on c [] ys = refl
after_on c (x ∷ xs) ys = after_on (served_on c x).after xs ys

commits_on : (c : Held) (xs ys : List ServedConnection)
    → commits_through c (xs ++ ys)
    ≡ commits_through c xs ++ commits_through (collection_after c xs) ys
commits_on c [] ys = refl
commits_on c (x ∷ xs) ys =
    ap (λ (cs : Commits). (served_on c x).commits ++ cs) (commits_on (served_on c x).after xs ys)
    ∙ sym (append_assoc (served_on c x).commits (commits_through (served_on c x).after xs)
    (commits_through (collection_after (served_on c x).after xs) ys))

lines_on : (i : ℕ) (xs ys : List ServedConnection)
    → lines_from i (xs ++ ys) ≡ lines_from i xs ++ lines_from (i + length xs) ys
lines_on i [] ys =
    let same : i ≡ i + 0 = omega arith in
    ap (λ n. lines_from n ys) same
lines_on i (x ∷ xs) ys =
    let same : (i + 1) + length xs ≡ i + length (x ∷ xs) = omega arith in
    ap (λ bs. connection_line i x.ended ++ bs)
    (lines_on (i + 1) xs ys ∙ ap (λ n. lines_from (i + 1) xs ++ lines_from n ys) same)
    ∙ sym (append_assoc (connection_line i x.ended) (lines_from (i + 1) xs)
    (lines_from (i + length (x ∷ xs)) ys))

many_on : {A : Type 0} (xs ys : List A) (count : ℕ)
    → many_more (length ys) (many_more (length xs) count) ≡ many_more (length (xs ++ ys)) count
many_on [] ys count = refl
many_on (x ∷ xs) ys count = many_on xs ys (one_more count)

module _ (wires sink : Type 0) where
  -- nothing came yet
  pub have_none : (i : ℕ) (c : Held) (old new : Outside) (Gives : List ℕ → Type 0)
      (Keeps : Commits → Type 0) → (wires → new.opened ≡ old.opened)
      → (wires → new.accepted ≡ old.accepted) → (wires → new.talks ≡ old.talks)
      → (sink → new.written ≡ old.written)
      → Gives [] → Keeps [] → HaveServed wires sink i c c [] old new Gives Keeps
  have_none i c old new Gives Keeps opened accepted talks written gives keeps = record {
    each = λ told. tt;
    after = λ told. refl;
    opened = opened;
    accepted = accepted;
    talks = λ told. talks told ∙ sym (append-nil old.talks);
    written = λ told. written told ∙ sym (append-nil old.written);
    moments = gives;
    kept = λ told. keeps;
  }

  -- one was served and told of
  pub have_one : (i : ℕ) (c c' : Held) (s : ServedConnection) (old new : Outside)
      (Gives : List ℕ → Type 0) (Keeps : Commits → Type 0)
      → (wires → EndsBy s.ended.why s.ended.requests Keeps (connection_of s.talk s.moments c c'))
      → (s.ended.why ≡ why.Wire → s.talk.failed ≡ true)
      → (wires → new.opened ≡ old.opened) → (wires → new.accepted ≡ one_more old.accepted)
      → (wires → new.talks ≡ old.talks ++ s.talk ∷ [])
      → (sink → new.written ≡ old.written ++ connection_line i s.ended) → Gives s.moments
      → HaveServed wires sink i c c' (s ∷ []) old new Gives Keeps
  have_one i c c' s old new Gives Keeps ends failed opened accepted talks written gives = record {
    each = λ told. (one_served c c' s Keeps (ends told) failed, tt);
    after = λ told. one_after c c' s Keeps (ends told);
    opened = opened;
    accepted = accepted;
    talks = talks;
    written = λ told.
        written told ∙ ap (λ bs. old.written ++ bs) (sym (append-nil (connection_line i s.ended)));
    moments = subst Gives (sym (append-nil s.moments)) gives;
    kept = λ told.
        subst Keeps (sym (append-nil (served_on c s).commits)) (one_kept c c' s Keeps (ends told));
  }

  module _
      (i j : ℕ) (c d e : Held) (xs ys : List ServedConnection) (old mid new : Outside)
      (G₁ G₂ G₃ : List ℕ → Type 0) (K₁ K₂ K₃ : Commits → Type 0)
      (first : HaveServed wires sink i c d xs old mid G₁ K₁)
      (next : HaveServed wires sink j d e ys mid new G₂ K₂) (number : j ≡ i + length xs)
    where
      -- their lines
      lines_too : lines_from i xs ++ lines_from j ys ≡ lines_from i (xs ++ ys)
      lines_too =
          ap (λ n. lines_from i xs ++ lines_from n ys) number ∙ sym (lines_on i xs ys)

      -- some were served, and then more
      pub have_on : ((a b : List ℕ) → G₁ a → G₂ b → G₃ (a ++ b))
          → ((a b : Commits) → K₁ a → K₂ b → K₃ (a ++ b))
          → HaveServed wires sink i c e (xs ++ ys) old new G₃ K₃
      have_on gives keeps = record {
        each = λ told. each_on c xs ys (first.each told)
            (subst (λ (h : Held). AreServedOn h ys) (first.after told) (next.each told));
        after = λ told. next.after told
            ∙ ap (λ (h : Held). collection_after h ys) (first.after told) ∙ sym (after_on c xs ys);
        opened = λ told. next.opened told ∙ first.opened told;
        accepted = λ told. next.accepted told
            ∙ ap (many_more (length ys)) (first.accepted told) ∙ many_on xs ys old.accepted;
        talks = λ told. next.talks told ∙ ap (λ ts. ts ++ talks_of ys) (first.talks told)
            ∙ append_assoc old.talks (talks_of xs) (talks_of ys)
            ∙ ap (λ ts. old.talks ++ ts) (sym (map-append (λ s. s.talk) xs ys));
        written = λ told. next.written told ∙ ap (λ bs. bs ++ lines_from j ys) (first.written told)
            ∙ append_assoc old.written (lines_from i xs) (lines_from j ys)
            ∙ ap (λ bs. old.written ++ bs) lines_too;
        moments = subst G₃ (sym (flat_map-append (λ s. s.moments) xs ys))
            (gives (moments_of xs) (moments_of ys) first.moments next.moments);
        kept = λ told. subst K₃ (sym (commits_on c xs ys))
            (keeps (commits_through c xs) (commits_through (collection_after c xs) ys)
            (first.kept told) (subst (λ (h : Held). K₂ (commits_through h ys)) (first.after told)
            (next.kept told)));
      }
