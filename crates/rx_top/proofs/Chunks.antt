-- How the chunks on a disk grow by one, and what a stop leaves of the next one.
use Rattle.std.proofs.Common.{◌≡◌, ◌∙◌, refl, sym, ap, subst, ℕ, ◌≤◌, List, [], ◌∷◌, ◌++◌, Option, None, Some, ⊎_elim, inr, append_assoc, append-nil}
use Rattle.rx_disk.specs.declared.disk.Disk.{Ghosts}
use Rattle.rx_disk.proofs.Moments.{started}
use Rattle.rx_store.specs.Safe.{IsFull}
use Rattle.rx_store.specs.Holds.{GrowsLegally, Leaves, StandsLegally}
use Rattle.rx_store.proofs.Growing.{grows_on}
use Rattle.rx_frame.specs.File.{end_of}
use Rattle.rx_outside.specs.declared.stop.Stop.{Stop}
use Rattle.rx_outside.specs.declared.stop.Stop.TheVariants.{Full}
use Rattle.rx_top.specs.Chunks.{AreCommitted, AreGrouped, Grouping, Keeps, Steps, ahead, all_of, in_groups, singly}
use Rattle.rx_top.specs.Start.{StaysLegal}

-- this very moment is the only one since itself
abbrev pub OnlyNow : {D : Type 0} → Ghosts D → D → Type 0
OnlyNow d disk = (c : List ℕ) → d.image_since disk (d.moment disk) c → d.image disk c

-- this moment counts since each earlier one
abbrev pub CountsNow : {D : Type 0} → Ghosts D → D → Type 0
CountsNow d disk = (t : ℕ) (c : List ℕ) → t ≤ d.moment disk → d.image disk c
    → d.image_since disk t c

pub all_of-append : (cs ds : List (List (List ℕ))) → all_of (cs ++ ds) ≡ all_of cs ++ all_of ds
all_of-append [] ds = refl
all_of-append (c ∷ cs) ds =
    ap (λ (bs : List (List ℕ)). c ++ bs) (all_of-append cs ds)
    ∙ sym (append_assoc c (all_of cs) (all_of ds))

pub all_of-push : (cs : List (List (List ℕ))) (c : List (List ℕ))
    → all_of (cs ++ c ∷ []) ≡ all_of cs ++ c
all_of-push cs c = all_of-append cs (c ∷ [])
    ∙ ap (λ (bs : List (List ℕ)). all_of cs ++ bs) (append-nil c)

-- ---- groups

-- groups have the bodies of their chunks
pub grouped_all : (cs gs : List (List (List ℕ))) → AreGrouped cs gs → all_of gs ≡ all_of cs
grouped_all cs [] none = ap all_of (sym none)
grouped_all cs (g ∷ gs) is =
    ap (λ (bs : List (List ℕ)). bs ++ all_of gs) is.3
    ∙ ap (λ (bs : List (List ℕ)). all_of is.0 ++ bs) (grouped_all is.1 gs is.4)
    ∙ sym (all_of-append is.0 is.1) ∙ ap all_of (sym is.2)

-- a group more
pub grouped-push : (cs gs more : List (List (List ℕ))) → AreGrouped cs gs
    → AreGrouped (cs ++ more) (gs ++ all_of more ∷ [])
grouped-push cs [] more none = (
  more,
  [],
  ap (λ (x : List (List (List ℕ))). x ++ more) none ∙ sym (append-nil more),
  refl,
  refl,
)
grouped-push cs (g ∷ gs) more is = (
  is.0,
  is.1 ++ more,
  ap (λ (x : List (List (List ℕ))). x ++ more) is.2 ∙ append_assoc is.0 is.1 more,
  is.3,
  grouped-push is.1 gs more is.4,
)

-- a chunk by itself in front
pub grouped_behind : (c : List (List ℕ)) (cs gs : List (List (List ℕ))) → AreGrouped cs gs
    → AreGrouped (c ∷ cs) (c ∷ gs)
grouped_behind c cs gs is = (c ∷ [], cs, refl, sym (append-nil c), is)

-- ---- groups of one chunk, or of some

pub committed_none : (by : Grouping) → AreCommitted by [] []
committed_none singly = refl
committed_none in_groups = refl

-- they have the bodies of their chunks
pub committed_all : (by : Grouping) (cs gs : List (List (List ℕ))) → AreCommitted by cs gs
    → all_of gs ≡ all_of cs
committed_all singly cs gs is = ap all_of is
committed_all in_groups cs gs is = grouped_all cs gs is

-- a chunk more, by itself
pub committed-push : (by : Grouping) (cs gs : List (List (List ℕ))) (c : List (List ℕ))
    → AreCommitted by cs gs → AreCommitted by (cs ++ c ∷ []) (gs ++ all_of (c ∷ []) ∷ [])
committed-push singly cs gs c is =
    ap (λ (x : List (List (List ℕ))). x ++ all_of (c ∷ []) ∷ []) is
    ∙ ap (λ (bs : List (List ℕ)). cs ++ bs ∷ []) (append-nil c)
committed-push in_groups cs gs c is = grouped-push cs gs (c ∷ []) is

pub committed_behind : (by : Grouping) (c : List (List ℕ)) (cs gs : List (List (List ℕ)))
    → AreCommitted by cs gs → AreCommitted by (c ∷ cs) (c ∷ gs)
committed_behind singly c cs gs is = ap (λ (x : List (List (List ℕ))). c ∷ x) is
committed_behind in_groups c cs gs is = grouped_behind c cs gs is

-- chunks were kept from one disk to another, and each image has all of them
pub record Kept
    {D : Type 0}
    (by : Grouping)
    (d : Ghosts D)
    (d0 d1 : D)
    (bodies : List (List ℕ))
    (chunks : List (List (List ℕ)))
    (limit : ℕ) : Type 0 where
  pub moments : GrowsLegally d d0 d1 bodies (all_of chunks)
  pub groups : List (List (List ℕ))
  pub committed : AreCommitted by chunks groups
  pub steps : Steps d d0 d1 bodies groups
  pub sure : Leaves d d1 (bodies ++ all_of chunks) []
  pub fits : end_of (bodies ++ all_of chunks) ≤ limit

module _ {D : Type 0} (d : Ghosts D) where
  pub still : (disk : D) (bodies : List (List ℕ)) → OnlyNow d disk → Leaves d disk bodies []
      → GrowsLegally d disk disk bodies []
  still disk bodies only_now leaves =
      started d disk (StandsLegally bodies []) (λ c left. leaves c (only_now c left))

  -- what holds at each moment holds now
  pub leaves_then : (d0 d1 : D) (bodies more : List (List ℕ)) → GrowsLegally d d0 d1 bodies more
      → CountsNow d d1 → Leaves d d1 bodies more
  leaves_then d0 d1 bodies more grows counts c now =
      grows.each c (counts (d.moment d0) c grows.later now)

  pub stays_legal : (d0 d1 : D) (bodies more : List (List ℕ)) → GrowsLegally d d0 d1 bodies more
      → CountsNow d d1 → StaysLegal d d0 d1 bodies
  stays_legal d0 d1 bodies more grows counts = record {
    more = more;
    moments = grows;
    now = leaves_then d0 d1 bodies more grows counts;
  }

module _ {D : Type 0} (by : Grouping) (d : Ghosts D) where
  -- no chunk yet
  pub kept_none : (disk : D) (bodies : List (List ℕ)) (limit : ℕ) → OnlyNow d disk
      → Leaves d disk bodies [] → end_of bodies ≤ limit → Kept by d disk disk bodies [] limit
  kept_none disk bodies limit only_now leaves fits =
      let here = still d disk bodies only_now leaves in
      let same = sym (append-nil bodies) in
      record {
        moments = here;
        groups = [];
        committed = committed_none by;
        steps = here;
        sure = subst (λ (bs : List (List ℕ)). Leaves d disk bs []) same leaves;
        fits = subst (λ (bs : List (List ℕ)). end_of bs ≤ limit) same fits;
      }

  steps-push : (d0 d1 d2 : D) (bodies : List (List ℕ)) (cs : List (List (List ℕ)))
      (c : List (List ℕ)) → Steps d d0 d1 bodies cs → GrowsLegally d d1 d2 (bodies ++ all_of cs) c
      → ((bs : List (List ℕ)) → bs ≡ (bodies ++ all_of cs) ++ c → GrowsLegally d d2 d2 bs [])
      → Steps d d0 d2 bodies (cs ++ c ∷ [])
  steps-push d0 d1 d2 bodies [] c steps grows after = (
    d2,
    grows_on d d0 d1 d2 bodies [] c steps grows,
    after (bodies ++ c) (ap (λ (bs : List (List ℕ)). bs ++ c) (sym (append-nil bodies))),
  )
  steps-push d0 d1 d2 bodies (y ∷ ys) c steps grows after =
      let same : bodies ++ (y ++ all_of ys) ≡ (bodies ++ y) ++ all_of ys =
      sym (append_assoc bodies y (all_of ys)) in (
        steps.0,
        steps.1,
        steps-push steps.0 d1 d2 (bodies ++ y) ys c steps.2
            (subst (λ (bs : List (List ℕ)). GrowsLegally d d1 d2 bs c) same grows)
            (λ bs e. after bs (e ∙ ap (λ (v : List (List ℕ)). v ++ c) (sym same))),
      )

  -- chunks more that were committed together
  pub kept_on : (d0 d1 d2 : D) (bodies : List (List ℕ)) (cs more : List (List (List ℕ)))
      (limit : ℕ) → (so_far : Kept by d d0 d1 bodies cs limit)
      → AreCommitted by (cs ++ more) (so_far.groups ++ all_of more ∷ [])
      → GrowsLegally d d1 d2 (bodies ++ all_of cs) (all_of more)
      → Leaves d d2 ((bodies ++ all_of cs) ++ all_of more) []
      → end_of ((bodies ++ all_of cs) ++ all_of more) ≤ limit → OnlyNow d d2
      → Kept by d d0 d2 bodies (cs ++ more) limit
  kept_on d0 d1 d2 bodies cs more limit so_far together_now grows leaves fits only_now =
      let together = all_of-append cs more in
      let same : (bodies ++ all_of cs) ++ all_of more ≡ bodies ++ all_of (cs ++ more) =
      append_assoc bodies (all_of cs) (all_of more)
      ∙ ap (λ (bs : List (List ℕ)). bodies ++ bs) (sym together) in
      let gs = so_far.groups in
      let as_groups : bodies ++ all_of cs ≡ bodies ++ all_of gs =
      ap (λ (bs : List (List ℕ)). bodies ++ bs) (sym (committed_all by cs gs so_far.committed)) in
      record {
        moments =
            subst (λ (bs : List (List ℕ)). GrowsLegally d d0 d2 bodies bs) (sym together)
            (grows_on d d0 d1 d2 bodies (all_of cs) (all_of more) so_far.moments grows);
        groups = gs ++ all_of more ∷ [];
        committed = together_now;
        steps = steps-push d0 d1 d2 bodies gs (all_of more) so_far.steps
            (subst (λ (bs : List (List ℕ)). GrowsLegally d d1 d2 bs (all_of more)) as_groups grows)
            (λ bs e. still d d2 bs only_now
            (subst (λ (v : List (List ℕ)). Leaves d d2 v [])
            (ap (λ (v : List (List ℕ)). v ++ all_of more) as_groups ∙ sym e) leaves));
        sure = subst (λ (bs : List (List ℕ)). Leaves d d2 bs []) same leaves;
        fits = subst (λ (bs : List (List ℕ)). end_of bs ≤ limit) same fits;
      }

  -- no work stopped, so nothing is ahead of the chunks
  pub keeps_all : (d0 d1 : D) (bodies : List (List ℕ)) (cs : List (List (List ℕ)))
      (next : List (List ℕ)) (limit : ℕ) → Kept by d d0 d1 bodies cs limit → OnlyNow d d1
      → Keeps by d d0 d1 bodies cs next limit None
  keeps_all d0 d1 bodies cs next limit so_far only_now = record {
    moments = subst (λ (bs : List (List ℕ)). GrowsLegally d d0 d1 bodies bs)
        (sym (append-nil (all_of cs))) so_far.moments;
    groups = so_far.groups;
    committed = so_far.committed;
    mid = d1;
    steps = so_far.steps;
    last = still d d1 (bodies ++ all_of cs) only_now so_far.sure;
    sure = so_far.sure;
    fits = inr so_far.fits;
    full = λ would most is. cc;
  }

  -- work on the next chunk stopped
  pub keeps_stopped : (d0 d1 d2 : D) (bodies : List (List ℕ)) (cs : List (List (List ℕ)))
      (next : List (List ℕ)) (limit : ℕ) (why : Stop) → Kept by d d0 d1 bodies cs limit
      → GrowsLegally d d1 d2 (bodies ++ all_of cs) next → CountsNow d d2
      → ((would most : ℕ) → why ≡ Full would most
      → (most ≡ limit) × IsFull d d2 (bodies ++ all_of cs) next would most)
      → Keeps by d d0 d2 bodies cs next limit (Some why)
  keeps_stopped d0 d1 d2 bodies cs next limit why so_far grows counts full = record {
    moments = grows_on d d0 d1 d2 bodies (all_of cs) next so_far.moments grows;
    groups = so_far.groups;
    committed = so_far.committed;
    mid = d1;
    steps = so_far.steps;
    last = grows;
    sure = leaves_then d d1 d2 (bodies ++ all_of cs) next grows counts;
    fits = inr so_far.fits;
    full = λ would most is. full would most cc;
  }

  -- a chunk stands before those that were kept
  pub keeps_behind : (d0 d1 d2 : D) (bodies c : List (List ℕ)) (cs : List (List (List ℕ)))
      (next : List (List ℕ)) (limit : ℕ) (stop : Option Stop) → GrowsLegally d d0 d1 bodies c
      → Keeps by d d1 d2 (bodies ++ c) cs next limit stop → end_of (bodies ++ c) ≤ limit
      → Keeps by d d0 d2 bodies (c ∷ cs) next limit stop
  keeps_behind d0 d1 d2 bodies c cs next limit stop grows k fits =
      let more = ahead stop next in
      let same : (bodies ++ c) ++ all_of cs ≡ bodies ++ (c ++ all_of cs) =
      append_assoc bodies c (all_of cs) in
      record {
        moments = subst (λ (bs : List (List ℕ)). GrowsLegally d d0 d2 bodies bs)
            (sym (append_assoc c (all_of cs) more))
            (grows_on d d0 d1 d2 bodies c (all_of cs ++ more) grows k.moments);
        groups = c ∷ k.groups;
        committed = committed_behind by c cs k.groups k.committed;
        mid = k.mid;
        steps = (d1, grows, k.steps);
        last = subst (λ (bs : List (List ℕ)). GrowsLegally d k.mid d2 bs more) same k.last;
        sure = subst (λ (bs : List (List ℕ)). Leaves d d2 bs more) same k.sure;
        fits = inr
            (⊎_elim (λ none. subst (λ (bs : List (List ℕ)). end_of bs ≤ limit) (alone none) fits)
            (λ le. subst (λ (bs : List (List ℕ)). end_of bs ≤ limit) same le) k.fits);
        full = λ would most is.
            let full = k.full would most is in (
              full.0,
              subst (λ (bs : List (List ℕ)). IsFull d d2 bs next would most) same full.1,
            );
      }
    where
      alone : cs ≡ [] → bodies ++ c ≡ bodies ++ (c ++ all_of cs)
      alone none = ap (λ (bs : List (List ℕ)). bodies ++ bs) (sym (append-nil c))
          ∙ ap (λ (ds : List (List (List ℕ))). bodies ++ (c ++ all_of ds)) (sym none)
