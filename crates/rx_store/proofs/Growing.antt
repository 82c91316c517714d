-- Runs that leave legal files join.
use Rattle.std.proofs.Common.{◌≡◌, inl, inr, ⊎_elim, ℕ, ◌<◌, ◌≤◌, ◌^◌, List, [], ◌++◌, Some, refl, sym, ◌∙◌, ap, subst, arith, append_assoc, append-nil}
use Rattle.rx_disk.specs.declared.disk.Disk.{Ghosts}
use Rattle.rx_disk.specs.Moments.{LeavesOnly}
use Rattle.rx_disk.proofs.Moments.{started, weaker, joined}
use Rattle.rx_frame.specs.File.{StandsFor, end_of}
use Rattle.rx_journal.specs.declared.journal.Journal.{Journal}
use Rattle.rx_world.specs.World.{World}
use Rattle.rx_store.specs.Holds.{StandsAlike, StandsLegally, GrowsLegally, Holds, ImagesStandFor, IsLegalFile, Leaves}
use Rattle.rx_store.specs.Versions.{replay_in, replay_of}

-- a front of some bodies is a front of more
pub longer : (bodies xs ys : List (List ℕ)) (c : List ℕ) → StandsLegally bodies xs c
    → StandsLegally bodies (xs ++ ys) c
longer bodies xs ys c s = record {
  front = s.front;
  rest = s.rest ++ ys;
  whole = ap (λ l. l ++ ys) s.whole ∙ append_assoc s.front s.rest ys;
  stands = s.stands;
  short = s.short;
  world = s.world;
  legal = s.legal;
  sound = s.sound;
}

-- a front behind others
pub behind : (bodies xs ys : List (List ℕ)) (c : List ℕ) → StandsLegally (bodies ++ xs) ys c
    → StandsLegally bodies (xs ++ ys) c
behind bodies xs ys c s =
    let all : (bodies ++ xs) ++ s.front ≡ bodies ++ (xs ++ s.front) =
    append_assoc bodies xs s.front in
    record {
      front = xs ++ s.front;
      rest = s.rest;
      whole = ap (λ l. xs ++ l) s.whole ∙ sym (append_assoc xs s.front s.rest);
      stands = subst (λ (bs : List (List ℕ)). StandsFor c bs) all s.stands;
      short = subst (λ (bs : List (List ℕ)). end_of bs < 2 ^ 32) all s.short;
      world = s.world;
      legal = subst (λ (bs : List (List ℕ)). replay_of c bs ≡ Some s.world) all s.legal;
      sound = s.sound;
    }

-- none of the new bodies yet, where a legal file of the old ones stands, or one like it
pub none_yet : {file : List ℕ} (bodies more : List (List ℕ)) (w : World) (c : List ℕ)
    → IsLegalFile file bodies w → StandsAlike file bodies c → StandsLegally bodies more c
none_yet bodies more w c legal alike =
    let same = sym (append-nil bodies) in
    record {
      front = [];
      rest = more;
      whole = refl;
      stands = subst (λ (bs : List (List ℕ)). StandsFor c bs) same alike.stands;
      short = subst (λ (bs : List (List ℕ)). end_of bs < 2 ^ 32) same legal.short;
      world = w;
      legal = subst (λ (bs : List (List ℕ)). replay_of c bs ≡ Some w) same
          (ap (λ (n : ℕ). replay_in n bodies) alike.version ∙ legal.plays);
      sound = legal.sound;
    }

module _ {D : Type 0} (d : Ghosts D) where
  -- a crash leaves only what has both
  pub both : (old new : D) (P Q : List ℕ → Type 0) → LeavesOnly d old new P
      → LeavesOnly d old new Q → LeavesOnly d old new (λ c. P c × Q c)
  both old new P Q p q = record {
    later = p.later;
    each = λ c left. (p.each c left, q.each c left);
    before = λ t c le left.
        ⊎_elim (λ b. inl b) (λ x. ⊎_elim (λ b. inl b) (λ y. inr (x, y)) (q.before t c le left))
        (p.before t c le left);
  }

  -- two runs join
  pub grows_on : (old mid new : D) (bodies xs ys : List (List ℕ))
      → GrowsLegally d old mid bodies xs → GrowsLegally d mid new (bodies ++ xs) ys
      → GrowsLegally d old new bodies (xs ++ ys)
  grows_on old mid new bodies xs ys first next =
      joined d old mid new _ _ _ first next (longer bodies xs ys) (behind bodies xs ys)

  -- more bodies were to come
  pub grows_longer : (old new : D) (bodies xs ys : List (List ℕ)) → GrowsLegally d old new bodies xs
      → GrowsLegally d old new bodies (xs ++ ys)
  grows_longer old new bodies xs ys run = weaker d old new _ _ (longer bodies xs ys) run

  -- each image of a disk that holds bodies is a legal file of them
  pub held_alike : (disk : D) (journal : Journal) (bodies : List (List ℕ)) (w : World)
      → Holds d disk journal bodies w → ImagesStandFor d disk bodies
  held_alike disk journal bodies w holds c now =
      subst (λ (l : List ℕ). StandsAlike (d.content disk) bodies l)
      (sym (holds.ready.durable c now))
      (record { stands = inr holds.ready.whole; version = refl })

  -- and so is what a read gives
  pub held_legal : (disk : D) (journal : Journal) (bodies : List (List ℕ)) (w : World)
      → Holds d disk journal bodies w → IsLegalFile (d.content disk) bodies w
  held_legal disk journal bodies w holds = record {
    stands = inr holds.ready.whole;
    short = omega (arith, holds.ready.ends, journal.short);
    plays = holds.played;
    sound = holds.sound;
  }

  pub held : (disk : D) (journal : Journal) (bodies more : List (List ℕ)) (w : World)
      → Holds d disk journal bodies w → Leaves d disk bodies more
  held disk journal bodies more w holds c now =
      none_yet bodies more w c (held_legal disk journal bodies w holds)
      (held_alike disk journal bodies w holds c now)

  -- nothing was done yet
  pub stays : (disk : D) (journal : Journal) (bodies more : List (List ℕ)) (w : World)
      → Holds d disk journal bodies w
      → ((c : List ℕ) → d.image_since disk (d.moment disk) c → d.image disk c)
      → GrowsLegally d disk disk bodies more
  stays disk journal bodies more w holds only_now =
      started d disk (StandsLegally bodies more)
      (λ c left. held disk journal bodies more w holds c (only_now c left))

  -- what holds at each moment of a run holds at its end
  pub leaves_now : (old new : D) (bodies more : List (List ℕ)) → GrowsLegally d old new bodies more
      → ((t : ℕ) (c : List ℕ) → t ≤ d.moment new → d.image new c → d.image_since new t c)
      → Leaves d new bodies more
  leaves_now old new bodies more run counts c now =
      run.each c (counts (d.moment old) c run.later now)
