-- The laws of a master at work over a disk and a clock.
use Rattle.std.proofs.Common.{◌≡◌, ◌∙◌, refl, sym, ap, subst, ℕ, ◌≤◌, ◌⊎◌, inl, inr, List, [], ◌++◌, ◌+◌, length, Option, None, Some, arith, length-append, append_assoc, append-nil}
use Rattle.std.proofs.lemmas.List.{map-append}
use Rattle.rx_disk.specs.declared.disk.Disk.{Ghosts}
use Rattle.rx_frame.specs.File.{end_of}
use Rattle.rx_outside.proofs.Counts.{rises_later}
use Rattle.rx_outside.specs.declared.stop.Stop.{Stop}
use Rattle.rx_outside.specs.declared.stop.Stop.TheVariants.{Full}
use Rattle.rx_serve.specs.Answered.{Commits}
use Rattle.rx_store.specs.Holds.{GrowsLegally, Leaves}
use Rattle.rx_store.specs.Safe.{IsFull}
use Rattle.rx_store.proofs.Growing.{grows_on, held, stays}
use Rattle.rx_host.specs.Engine.{IsAt, limit_of, name_of, world_at}
use Rattle.rx_host.specs.Hosting.{Hosts, IsWorking, limit_in, served_name, stop_in}
use Rattle.rx_host.specs.Keeping.{Keeps}
use Rattle.rx_host.specs.Moments.{GivesMoments, Ticks}
use Rattle.rx_host.specs.Records.{bodies_of, body_of}
use Rattle.rx_host.specs.declared.engine.MasterEngine.{MasterEngine}
use Rattle.rx_host.specs.declared.host.Work.{Work}
use Rattle.rx_host.specs.declared.host.Work.TheVariants.{Going, Stopped}

-- ---- counts and moments

pub later : (n : ℕ) → n ≤ n
later n = omega arith

pub at_most : (a b c : ℕ) → a ≤ b → b ≤ c → a ≤ c
at_most a b c first second = omega (arith, first, second)

pub ticks_none : (tells : Type 0) (given moments : List ℕ)
    → Ticks tells given given moments moments
ticks_none tells given moments = record {
  joined = [];
  more = sym (append-nil moments);
  of_clock = λ told. inl (sym (append-nil given));
}

pub gives_on : (g0 g1 g2 xs ys : List ℕ) → GivesMoments g0 g1 xs → GivesMoments g1 g2 ys
    → GivesMoments g0 g2 (xs ++ ys)
gives_on g0 g1 g2 xs ys (inl first) (inl second) =
    inl (second ∙ ap (λ v. v ++ ys) first ∙ append_assoc g0 xs ys)
gives_on g0 g1 g2 xs ys (inl first) (inr past) =
    let long : length g1 ≡ length g0 + length xs = ap length first ∙ length-append g0 xs in
    inr (omega (arith, past, long, length-append xs ys))
gives_on g0 g1 g2 xs ys (inr past) second = inr (omega (arith, past, length-append xs ys))

pub ticks_on : (tells : Type 0) (g0 g1 g2 m0 m1 m2 : List ℕ) → Ticks tells g0 g1 m0 m1
    → Ticks tells g1 g2 m1 m2 → Ticks tells g0 g2 m0 m2
ticks_on tells g0 g1 g2 m0 m1 m2 first second = record {
  joined = first.joined ++ second.joined;
  more = second.more ∙ ap (λ v. v ++ second.joined) first.more
      ∙ append_assoc m0 first.joined second.joined;
  of_clock = λ told.
      gives_on g0 g1 g2 first.joined second.joined (first.of_clock told) (second.of_clock told);
}

-- ---- what is kept

pub bodies_joined : (name : List ℕ) (first second : Commits)
    → bodies_of name (first ++ second) ≡ bodies_of name first ++ bodies_of name second
bodies_joined name first second = map-append (body_of name) first second

-- this very moment is the only one since itself, and counts since each earlier one
abbrev pub OnlyNow : {D : Type 0} → Ghosts D → Type 0
OnlyNow {D} d = (disk : D) (c : List ℕ) → d.tells → d.image_since disk (d.moment disk) c
    → d.image disk c

abbrev pub CountsNow : {D : Type 0} → Ghosts D → Type 0
CountsNow {D} d = (disk : D) (t : ℕ) (c : List ℕ) → d.tells → t ≤ d.moment disk → d.image disk c
    → d.image_since disk t c

fits_joined : (bodies : List (List ℕ)) (name : List ℕ) (limit : ℕ) (first second : Commits)
    → (first ≡ []) ⊎ (end_of (bodies ++ bodies_of name first) ≤ limit)
    → (second ≡ [])
    ⊎ (end_of ((bodies ++ bodies_of name first) ++ bodies_of name second) ≤ limit)
    → ((first ++ second) ≡ [])
    ⊎ (end_of (bodies ++ bodies_of name (first ++ second)) ≤ limit)
fits_joined bodies name limit first second fits (inr fit) =
    inr (subst (λ (bs : List (List ℕ)). end_of bs ≤ limit)
    (append_assoc bodies (bodies_of name first) (bodies_of name second)
    ∙ ap (λ bs. bodies ++ bs) (sym (bodies_joined name first second))) fit)
fits_joined bodies name limit first second (inl none) (inl none') =
    inl (ap (λ (cs : Commits). cs ++ second) none ∙ none')
fits_joined bodies name limit first second (inr fit) (inl none') =
    let same : first ≡ first ++ second =
    sym (append-nil first) ∙ ap (λ (cs : Commits). first ++ cs) (sym none') in
    inr (subst (λ (cs : Commits). end_of (bodies ++ bodies_of name cs) ≤ limit) same fit)

module _ {D : Type 0} (d : Ghosts D) where
  -- nothing was done yet
  pub keeps_none : OnlyNow d → d.tells → (disk : D) (m : MasterEngine) (bodies : List (List ℕ))
      → IsAt d disk m bodies → (stop : Option Stop)
      → ((would most : ℕ) → stop ≡ Some (Full would most) → ⊥)
      → Keeps d disk disk bodies (name_of m) (limit_of m) [] [] stop
  keeps_none only_now told disk m bodies at stop no_full = record {
    moments = stays d disk m.journal bodies [] (world_at m) at
        (λ c left. only_now disk c told left);
    now = subst (λ (bs : List (List ℕ)). Leaves d disk bs []) (sym (append-nil bodies))
        (held d disk m.journal bodies [] (world_at m) at);
    fits = inl refl;
    full = λ would most is. absurd (no_full would most is);
  }

  -- and then more
  pub keeps_on : (a b c : D) (bodies : List (List ℕ)) (name : List ℕ) (limit : ℕ)
      (first second more : Commits) (early stop : Option Stop)
      → Keeps d a b bodies name limit first [] early
      → Keeps d b c (bodies ++ bodies_of name first) name limit second more stop
      → Keeps d a c bodies name limit (first ++ second) more stop
  keeps_on a b c bodies name limit first second more early stop h k =
      let xs = bodies_of name first in
      let ys = bodies_of name second in
      let zs = bodies_of name more in
      let both : xs ++ ys ≡ bodies_of name (first ++ second) =
      sym (bodies_joined name first second) in
      let all : (bodies ++ xs) ++ ys ≡ bodies ++ bodies_of name (first ++ second) =
      append_assoc bodies xs ys ∙ ap (λ bs. bodies ++ bs) both in
      let early : GrowsLegally d a b bodies xs =
      subst (λ (bs : List (List ℕ)). GrowsLegally d a b bodies bs) (append-nil xs) h.moments in
      record {
        moments = subst (λ (bs : List (List ℕ)). GrowsLegally d a c bodies bs)
            (sym (append_assoc xs ys zs) ∙ ap (λ bs. bs ++ zs) both)
            (grows_on d a b c bodies xs (ys ++ zs) early k.moments);
        now = subst (λ (bs : List (List ℕ)). Leaves d c bs zs) all k.now;
        fits = fits_joined bodies name limit first second h.fits k.fits;
        full = λ would most is.
            let full = k.full would most is in (
              full.0,
              subst (λ (bs : List (List ℕ)). IsFull d c bs zs would most) all full.1,
            );
      }

  -- ---- at work

  pub hosts_none : OnlyNow d → (disk : D) (work : Work) → stop_in work ≡ None
      → Hosts d disk disk work work [] []
  hosts_none only_now disk (Going m) going = record {
    name = λ still. refl;
    limit = λ still. refl;
    keeps = λ told bodies at.
        keeps_none only_now told disk m bodies at None (λ would most is. absurd (cc));
    goes_on = λ told bodies at still.
        subst (λ (bs : List (List ℕ)). IsAt d disk m bs) (sym (append-nil bodies)) at;
    count = omega arith;
    disk_only = λ is. absurd (cc);
    lawful = λ is. absurd (cc);
  }
  hosts_none only_now disk (Stopped why) going = absurd (cc)

  pub hosts_on : (a b c : D) (wa wb wc : Work) (first second more : Commits)
      → stop_in wb ≡ None → Hosts d a b wa wb first [] → Hosts d b c wb wc second more
      → Hosts d a c wa wc (first ++ second) more
  hosts_on a b c wa wb wc first second more going h k = record {
    name = λ still. k.name still ∙ h.name going;
    limit = λ still. k.limit still ∙ h.limit going;
    keeps = λ told bodies at.
        let mid = bodies ++ bodies_of (served_name wa) first in
        let next : Keeps d b c mid (served_name wb) (limit_in wb) second more (stop_in wc) =
        k.keeps told mid (h.goes_on told bodies at going) in
        let named : Keeps d b c mid (served_name wa) (limit_in wb) second more (stop_in wc) =
        subst (λ v. Keeps d b c mid v (limit_in wb) second more (stop_in wc)) (h.name going) next in
        let limited : Keeps d b c mid (served_name wa) (limit_in wa) second more (stop_in wc) =
        subst (λ v. Keeps d b c mid (served_name wa) v second more (stop_in wc))
        (h.limit going) named
        in
        keeps_on a b c bodies (served_name wa) (limit_in wa) first second more (stop_in wb)
        (stop_in wc)
        (h.keeps told bodies at) limited;
    goes_on = λ told bodies at still.
        let name = served_name wa in
        let mid = bodies ++ bodies_of name first in
        let next : IsWorking d c wc (mid ++ bodies_of (served_name wb) second) =
        k.goes_on told mid (h.goes_on told bodies at going) still in
        let named : IsWorking d c wc (mid ++ bodies_of name second) =
        subst (λ v. IsWorking d c wc (mid ++ bodies_of v second)) (h.name going) next in
        subst (λ (bs : List (List ℕ)). IsWorking d c wc bs)
        (append_assoc bodies (bodies_of name first) (bodies_of name second)
        ∙ ap (λ bs. bodies ++ bs) (sym (bodies_joined name first second))) named;
    count = omega (arith, h.count, k.count);
    disk_only = λ is.
        rises_later (d.faults a) (d.faults b) (d.faults c) h.count (k.disk_only is);
    lawful = k.lawful;
  }
