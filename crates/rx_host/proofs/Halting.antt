-- How connections that are served one after another halt.
use Rattle.std.proofs.Common.{◌≡◌, ◌∙◌, refl, sym, ap, subst, ℕ, ◌+◌, ◌≤◌, ◌⊎◌, ⊎_elim, inl, inr, List, [], ◌∷◌, ◌++◌, length, Option, None, Some, true, append-nil, arith}
use Rattle.rx_collection.specs.Held.{Held}
use Rattle.rx_outside.specs.Failed.{one_more}
use Rattle.rx_outside.specs.Sink.{WritesFront}
use Rattle.rx_outside.specs.Talk.{Talk}
use Rattle.rx_outside.specs.declared.stop.Stop.{Stop}
use Rattle.rx_outside.specs.declared.stop.Stop.TheVariants.{Memory}
use Rattle.rx_serve.specs.Answered.{Commits}
use Rattle.rx_serve.specs.Ends.{EndsBy, IsStopOf, IsStopped}
use Rattle.rx_serve.specs.declared.ended.Why.TheVariants as why
use Rattle.rx_host.specs.Connections.{IsServedOn, ServedConnection, coming_in, collection_after, commits_through, connection_line, connection_of, moments_of, served_on}
use Rattle.rx_host.specs.Outside.{BreaksOff, HaltsAfter, HaltsAtLine, HaltsBetween, HaltsBy, HaltsWithin, HaveServed, Outside, opened_at, outside_after}
use Rattle.rx_host.specs.declared.connections.ServeFault.{ServeFault}
use Rattle.rx_host.specs.declared.connections.ServeFault.TheVariants as fault
use Rattle.rx_host.proofs.Ends.{stopped_too}
use Rattle.rx_host.proofs.InTurn.{one_kept, one_served}

abbrev Left : Type 1
Left = Option Stop → Commits → Commits → Type 0

-- ---- within a connection

-- it ended, and memory is wanting
pub broke_after : (c c' : Held) (s : ServedConnection) (Leaves : Left) (Keeps : Commits → Type 0)
    → ((commits : Commits) → Keeps commits → Leaves None commits [])
    → EndsBy s.ended.why s.ended.requests Keeps (connection_of s.talk s.moments c c')
    → (s.ended.why ≡ why.Wire → s.talk.failed ≡ true)
    → BreaksOff Memory c s.talk s.moments Leaves
broke_after c c' s Leaves Keeps left ends failed =
    inl (s.ended, refl, one_served c c' s Keeps ends failed, left _ (one_kept c c' s Keeps ends))

-- a stop came within it
pub broke_within : (why why' : Stop) (c : Held) (t : Talk) (moments coming sent : List ℕ)
    (Leaves : Left) (after : Held) (stop : Option Stop) → (why' ≡ why) ⊎ (why' ≡ Memory)
    → IsStopOf why stop → coming ≡ coming_in t → sent ≡ t.sent
    → IsStopped (Leaves stop) (record {
      before = c;
      after = after;
      moments = moments;
      coming = coming;
      sent = sent;
    })
    → BreaksOff why' c t moments Leaves
broke_within why why' c t moments coming sent Leaves after stop same of came went stopped =
    inr (
      stop,
      ⊎_elim (λ is. ⊎_elim (λ told. inl (told ∙ ap (λ (s : Stop). Some s) (sym is)))
          (λ memory. inr (is ∙ memory.0)) of) (λ memory. inr memory) same,
      after,
      subst (λ (bs : List ℕ). IsStopped (Leaves stop) (record {
        before = c;
        after = after;
        moments = moments;
        coming = coming_in t;
        sent = bs;
      })) went
          (subst (λ (bs : List ℕ). IsStopped (Leaves stop) (record {
            before = c;
            after = after;
            moments = moments;
            coming = bs;
            sent = sent;
          })) came stopped),
    )

-- ---- after connections that were served

module _
    (wires sink : Type 0) (i j : ℕ) (c d : Held) (xs : List ServedConnection)
    (old mid new : Outside) (G₁ G₂ G₃ : List ℕ → Type 0) (K : Commits → Type 0) (L₂ L₃ : Left)
    (first : HaveServed wires sink i c d xs old mid G₁ K) (number : j ≡ i + length xs)
    (gives : (a b : List ℕ) → G₁ a → G₂ b → G₃ (a ++ b))
    (leaves : (stop : Option Stop) (a sure more : Commits) → K a → L₂ stop sure more
    → L₃ stop (a ++ sure) more)
  where
    -- the commits before it
    abbrev before : Commits
    before = commits_through c xs

    abbrev Given : List ℕ → Type 0
    Given moments = G₃ (moments_of xs ++ moments)

    abbrev Leaving : Left
    Leaving stop sure more = L₃ stop (before ++ sure) more

    between : HaltsBetween wires sink mid new G₂ L₂
        → HaltsBetween wires sink (outside_after i xs old) new Given Leaving
    between halts = record {
      opened = λ told. halts.opened told ∙ first.opened told;
      accepted = λ told. halts.accepted told ∙ first.accepted told;
      talks = λ told. halts.talks told ∙ first.talks told;
      written = λ told. halts.written told ∙ first.written told;
      moments = gives _ _ first.moments halts.moments;
      kept = λ told. leaves None _ _ _ (first.kept told) (halts.kept told);
    }

    at_line : HaltsAtLine wires sink j d mid new G₂ L₂
        → HaltsAtLine wires sink (i + length xs) (collection_after c xs)
        (outside_after i xs old) new
        Given Leaving
    at_line halts = record {
      last = halts.last;
      each = λ told.
          subst (λ (h : Held). IsServedOn h halts.last) (first.after told) (halts.each told);
      opened = λ told. halts.opened told ∙ first.opened told;
      accepted = λ told. halts.accepted told ∙ ap one_more (first.accepted told);
      talks = λ told. halts.talks told ∙ ap (λ ts. ts ++ halts.last.talk ∷ []) (first.talks told);
      written = λ told.
          subst (λ (n : ℕ). WritesFront (outside_after i xs old).written new.written
          (connection_line n halts.last.ended)) number
          (subst (λ (bs : List ℕ). WritesFront bs new.written (connection_line j halts.last.ended))
          (first.written told) (halts.written told));
      moments = gives _ _ first.moments halts.moments;
      kept = λ told.
          leaves None _ _ _ (first.kept told)
          (subst (λ (h : Held). L₂ None (served_on h halts.last).commits []) (first.after told)
          (halts.kept told));
    }

    breaking : (why : Stop) (t : Talk) (moments : List ℕ) → K before
        → BreaksOff why (collection_after c xs) t moments L₂
        → BreaksOff why (collection_after c xs) t moments Leaving
    breaking why t moments kept (inl (ended, memory, served, left)) =
        inl (ended, memory, served, leaves None _ _ _ kept left)
    breaking why t moments kept (inr (stop, of, after, stopped)) =
        inr (
          stop,
          of,
          after,
          stopped_too (L₂ stop) (Leaving stop)
              (λ sure more holds. leaves stop _ sure more kept holds)
              (connection_of t moments (collection_after c xs) after) stopped,
        )

    within : (why : Stop) → HaltsWithin wires sink why d mid new G₂ L₂
        → HaltsWithin wires sink why (collection_after c xs)
        (outside_after i xs old) new Given Leaving
    within why halts = record {
      talk = halts.talk;
      moments = halts.moments;
      breaks = λ told.
          breaking why halts.talk halts.moments (first.kept told)
          (subst (λ (h : Held). BreaksOff why h halts.talk halts.moments L₂) (first.after told)
          (halts.breaks told));
      opened = λ told. halts.opened told ∙ first.opened told;
      accepted = λ told. halts.accepted told ∙ ap one_more (first.accepted told);
      talks = λ told.
          ⊎_elim (λ joins. inl (joins ∙ ap (λ ts. ts ++ halts.talk ∷ []) (first.talks told)))
          (λ wanting. inr (wanting.0, wanting.1 ∙ first.talks told)) (halts.talks told);
      written = λ told. halts.written told ∙ first.written told;
      given = gives _ _ first.moments halts.given;
    }

    by_fault : (fault : ServeFault) → HaltsBy fault wires sink j d mid new G₂ L₂
        → HaltsBy fault wires sink (i + length xs) (collection_after c xs)
        (outside_after i xs old) new
        Given Leaving
    by_fault fault.Door halts = between halts
    by_fault fault.Sink halts = at_line halts
    by_fault (fault.Stopped why) halts = within why halts

    -- some were served at an open door, and then it halted
    pub halts_on : (fault : ServeFault) (port most : ℕ) (before : Outside)
        → old ≡ opened_at port before → length xs ≤ most
        → HaltsBy fault wires sink j d mid new G₂ L₂
        → HaltsAfter fault port most wires sink i c before new G₃ L₃
    halts_on fault port most before is few halts = record {
      conns = xs;
      few = few;
      each = first.each;
      begun = old;
      opened = inl is;
      last = by_fault fault halts;
    }

-- the door didn't open
pub unopened : (wires sink : Type 0) (port most : ℕ) (c : Held) (old new : Outside)
    (Gives : List ℕ → Type 0) (Leaves : Left)
    → (new.opened ≡ old.opened ++ port ∷ []) ⊎ (new.opened ≡ old.opened)
    → new.accepted ≡ old.accepted → new.talks ≡ old.talks → new.written ≡ old.written → Gives []
    → Leaves None [] [] → HaltsAfter fault.Door port most wires sink 1 c old new Gives Leaves
unopened wires sink port most c old new Gives Leaves (inl noted) accepted talks written gives
    leaves = record {
      conns = [];
      few = omega arith;
      each = λ told. tt;
      begun = opened_at port old;
      opened = inl refl;
      last = record {
        opened = λ told. noted;
        accepted = λ told. accepted;
        talks = λ told. talks ∙ sym (append-nil old.talks);
        written = λ told. written ∙ sym (append-nil old.written);
        moments = gives;
        kept = λ told. leaves;
      };
    }
unopened wires sink port most c old new Gives Leaves (inr same) accepted talks written gives
    leaves = record {
      conns = [];
      few = omega arith;
      each = λ told. tt;
      begun = old;
      opened = inr (refl, refl, refl);
      last = record {
        opened = λ told. same;
        accepted = λ told. accepted;
        talks = λ told. talks ∙ sym (append-nil old.talks);
        written = λ told. written ∙ sym (append-nil old.written);
        moments = gives;
        kept = λ told. leaves;
      };
    }
