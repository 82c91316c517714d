-- A walk through a tree, up and then down, each step of which brings a fork and its master
-- together.
use Rattle.std.proofs.Common.{◌≡◌, ◌≢◌, ℕ, zero, suc, ◌+◌, ◌-◌, ◌<◌, ◌≤◌, Bool, true, List, [], ◌∷◌, ◌++◌, length, Some, refl, sym, ap, ◌∙◌, subst, arith, inl, inr}
use Rattle.std.proofs.lemmas.Bool.{cases_lt, false≢true, or_cases}
use Rattle.std.specs.Bool.{Decides}
use Rattle.std.specs.List.{AllByRecursion, flat_map, list_any}
use Rattle.rx_value.proofs.Outcomes.{some_same, some_then}
use Rattle.rx_tree.specs.Forest.{Reaches, climbed, is_forest, master_of}
use Rattle.rx_tree.specs.Orders.{levels_down, levels_up}
use Rattle.rx_tree.proofs.Climbing.{climb_end, climb_last}
use Rattle.rx_tree.proofs.Depth.{few}
use Rattle.rx_tree.proofs.Forests.{never_back}

-- ---- lists

module _ {X : Type 0} (P : X → Type 0) where
  pub all_both : (xs ys : List X) → AllByRecursion P xs → AllByRecursion P ys
      → AllByRecursion P (xs ++ ys)
  all_both [] ys all more = more
  all_both (x ∷ xs) ys all more = (all.0, all_both xs ys all.1 more)

  pub all_parts : (xs ys : List X) → AllByRecursion P (xs ++ ys)
      → AllByRecursion P xs × AllByRecursion P ys
  all_parts [] ys all = (tt, all)
  all_parts (x ∷ xs) ys all =
      let parts = all_parts xs ys all.1 in ((all.0, parts.0), parts.1)

pub all_so : {X : Type 0} (P Q : X → Type 0) → ((x : X) → P x → Q x) → (xs : List X)
    → AllByRecursion P xs → AllByRecursion Q xs
all_so P Q so [] all = tt
all_so P Q so (x ∷ xs) all = (so x all.0, all_so P Q so xs all.1)

all_zip : {X : Type 0} (P Q : X → Type 0) (xs : List X) → AllByRecursion P xs
    → AllByRecursion Q xs → AllByRecursion (λ x. P x × Q x) xs
all_zip P Q [] ps qs = tt
all_zip P Q (x ∷ xs) ps qs = ((ps.0, qs.0), all_zip P Q xs ps.1 qs.1)

-- no two of them are equal
abbrev pub AreApart : {X : Type 0} → List X → Type 0
AreApart [] = Unit {0}
AreApart (c ∷ cs) = AllByRecursion (λ d. d ≢ c) cs × AreApart cs

-- ---- ways up

-- The forks of each collection are listed, and no one twice.
pub record AreForks {X : Type 0} (eq : X → X → Bool) (es : List (X × X)) (forks : X → List X)
    : Type 0 where
  pub forest : is_forest eq es ≡ true
  pub follow : (n : X) → AllByRecursion (λ c. master_of eq es c ≡ Some n) (forks n)
  pub apart : (n : X) → AreApart (forks n)
  pub listed : (c n : X) → master_of eq es c ≡ Some n → list_any (eq c) (forks n) ≡ true

module _ {X : Type 0} (eq : X → X → Bool) (law : (m n : X) → Decides (eq m n) (m ≡ n))
    (es : List (X × X)) (forks : X → List X) (are : AreForks eq es forks) where
  -- it is the master's fork
  abbrev pub Follows : X → X → Type 0
  Follows c n = master_of eq es c ≡ Some n

  -- going from it to its master, and on, leads there
  abbrev pub Below : X → X → Type 0
  Below x c = (j : ℕ) × (climbed eq (suc j) es x ≡ Some c)

  abbrev Leads : X → X → Type 0
  Leads x c = Reaches eq es x c

  -- it leads to none of them
  abbrev LeadsToNone : X → List X → Type 0
  LeadsToNone x cs = AllByRecursion (λ c. Leads x c → ⊥) cs

  not_itself : (x c : X) → Below x c → x ≢ c
  not_itself x c b same =
      never_back eq law es are.forest c b.0
      (subst (λ (y : X). climbed eq (suc b.0) es y ≡ Some c) same b.1)

  above_it : (x c n : X) → Leads x c → Follows c n → Below x n
  above_it x c n way m = (way.0, climb_end eq law way.0 es x c n way.1 m)

  leads : (x c : X) → Below x c → Leads x c
  leads x c b = (suc b.0, b.1)

  not_above : (x c n : X) → Below x c → Follows c n → x ≢ n
  not_above x c n b m = not_itself x n (above_it x c n (leads x c b) m)

  fork_isnt : (c n : X) → Follows c n → c ≢ n
  fork_isnt c n m = not_itself c n (above_it c c n (0, refl) m)

  -- a master's way isn't one to its forks
  never_down : (n c : X) → Follows c n → Leads n c → ⊥
  never_down n c m way = not_itself n n (above_it n c n way m) refl

  -- the rest of a way
  rest_of : (i k j : ℕ) (x c top : X) → j ≡ i + k → climbed eq i es x ≡ Some c
      → climbed eq j es x ≡ Some top → climbed eq k es c ≡ Some top
  rest_of zero k j x c top sum is way =
      let same : j ≡ k = omega (arith, sum) in
      subst (λ (l : ℕ). climbed eq l es c ≡ Some top) same
      (subst (λ (y : X). climbed eq j es y ≡ Some top) (some_same is) way)
  rest_of (suc i) k zero x c top sum is way = absurd (omega (arith, sum))
  rest_of (suc i) k (suc j) x c top sum is way =
      let a = some_then (master_of eq es x) (climbed eq i es) c is in
      let b = some_then (master_of eq es x) (climbed eq j es) top way in
      rest_of i k j a.0 c top (omega (arith, sum)) a.2
      (subst (λ (y : X). climbed eq j es y ≡ Some top) (some_same (sym b.1 ∙ a.1)) b.2)

  -- no collection reaches a master by two of its forks
  longer : (i j : ℕ) (x c n : X) → i < j → climbed eq i es x ≡ Some c → Follows c n
      → climbed eq (suc j) es x ≡ Some n → ⊥
  longer i j x c n less is m way =
      let k = j - suc i in
      let sum : suc j ≡ suc i + suc k = omega (arith, less) in
      never_back eq law es are.forest n k
      (rest_of (suc i) (suc k) (suc j) x n n sum (climb_end eq law i es x c n is m) way)

  one_fork : (x c d n : X) → Leads x c → Leads x d → Follows c n → Follows d n → c ≡ d
  one_fork x c d n a b at there =
      elim (cases_lt a.0 b.0) [
        | inl less ↦ absurd (longer a.0 b.0 x c n less a.1 at
            (climb_end eq law b.0 es x d n b.1 there))
        | inr no_less ↦ elim (cases_lt b.0 a.0) [
          | inl less ↦ absurd (longer b.0 a.0 x d n less b.1 there
              (climb_end eq law a.0 es x c n a.1 at))
          | inr same ↦
              let as_far : a.0 ≡ b.0 = omega (arith, no_less, same) in
              some_same (sym a.1
              ∙ ap (λ (j : ℕ). climbed eq j es x) as_far ∙ b.1)
        ]
      ]

  -- ---- the forks of a collection

  -- one that leads to one of them leads to no other
  clear : (c n : X) (cs : List X) → Follows c n → AllByRecursion (λ d. Follows d n) cs
      → AllByRecursion (λ d. d ≢ c) cs → (x : X) → Leads x c → LeadsToNone x cs
  clear c n cs m all apart x way =
      all_so (λ d. Follows d n × (d ≢ c)) (λ d. Leads x d → ⊥)
      (λ d h other. h.1 (one_fork x d c n other way h.0 m)) cs
      (all_zip (λ d. Follows d n) (λ d. d ≢ c) cs all apart)

  -- one that doesn't lead to a collection leads to none of its forks
  none_below : (y c : X) → (Leads y c → ⊥) → LeadsToNone y (forks c)
  none_below y c none =
      all_so (λ d. Follows d c) (λ d. Leads y d → ⊥)
      (λ d m way. none (leads y c (above_it y d c way m))) (forks c) (are.follow c)

  -- a collection leads to none of its forks, and neither does its master
  fork_none : (c : X) → LeadsToNone c (forks c)
  fork_none c =
      all_so (λ d. Follows d c) (λ d. Leads c d → ⊥) (λ d m. never_down c d m) (forks c)
      (are.follow c)

  master_none : (c n : X) → Follows c n → LeadsToNone n (forks c)
  master_none c n m =
      all_so (λ d. Follows d c) (λ d. Leads n d → ⊥)
      (λ d at way. never_down n c m (leads n c (above_it n d c way at))) (forks c)
      (are.follow c)

  -- ---- what is listed is below

  pub up_below : (k : ℕ) (c : X) → AllByRecursion (λ x. Below x c) (levels_up forks k c)
  up_below zero c = tt
  up_below (suc k) c = from (up_below k) (forks c) (are.follow c)
    where
      from : ((d : X) → AllByRecursion (λ x. Below x d) (levels_up forks k d)) → (cs : List X)
          → AllByRecursion (λ d. Follows d c) cs
          → AllByRecursion (λ x. Below x c) (flat_map (λ d. levels_up forks k d ++ d ∷ []) cs)
      from each [] all = tt
      from each (d ∷ cs) all =
          all_both (λ x. Below x c) (levels_up forks k d ++ d ∷ [])
          (flat_map (λ d. levels_up forks k d ++ d ∷ []) cs)
          (all_both (λ x. Below x c) (levels_up forks k d) (d ∷ [])
          (all_so (λ x. Below x d) (λ x. Below x c)
          (λ x b. above_it x d c (leads x d b) all.0) (levels_up forks k d) (each d))
          (above_it d d c (0, refl) all.0, tt))
          (from each cs all.1)

  pub down_below : (k : ℕ) (c : X) → AllByRecursion (λ x. Below x c) (levels_down forks k c)
  down_below zero c = tt
  down_below (suc k) c = from (down_below k) (forks c) (are.follow c)
    where
      from : ((d : X) → AllByRecursion (λ x. Below x d) (levels_down forks k d)) → (cs : List X)
          → AllByRecursion (λ d. Follows d c) cs
          → AllByRecursion (λ x. Below x c) (flat_map (λ d. d ∷ levels_down forks k d) cs)
      from each [] all = tt
      from each (d ∷ cs) all =
          all_both (λ x. Below x c) (d ∷ levels_down forks k d)
          (flat_map (λ d. d ∷ levels_down forks k d) cs) (
            above_it d d c (0, refl) all.0,
            all_so (λ x. Below x d) (λ x. Below x c)
                (λ x b. above_it x d c (leads x d b) all.0) (levels_down forks k d) (each d),
          )
          (from each cs all.1)

  -- what holds of all that are listed holds of each that is below, in either order
  as_down : (P : X → Type 0) (levels : ℕ) (top : X) → AllByRecursion P (levels_up forks levels top)
      → AllByRecursion P (levels_down forks levels top)
  as_down P zero top all = tt
  as_down P (suc k) top all = from (as_down P k) (forks top) all
    where
      from : ((d : X) → AllByRecursion P (levels_up forks k d)
          → AllByRecursion P (levels_down forks k d)) → (cs : List X)
          → AllByRecursion P (flat_map (λ d. levels_up forks k d ++ d ∷ []) cs)
          → AllByRecursion P (flat_map (λ d. d ∷ levels_down forks k d) cs)
      from each [] all = tt
      from each (d ∷ cs) all =
          let parts = all_parts P (levels_up forks k d ++ d ∷ [])
          (flat_map (λ d. levels_up forks k d ++ d ∷ []) cs) all in
          let block = all_parts P (levels_up forks k d) (d ∷ []) parts.0 in
          all_both P (d ∷ levels_down forks k d) (flat_map (λ d. d ∷ levels_down forks k d) cs)
          (block.1.0, each d block.0) (from each cs parts.1)

  of_flat : (P : X → Type 0) (f : X → List X) (cs : List X) (c : X) → list_any (eq c) cs ≡ true
      → AllByRecursion P (flat_map f cs) → AllByRecursion P (f c)
  of_flat P f [] c is all = absurd (false≢true is)
  of_flat P f (d ∷ cs) c is all =
      let parts = all_parts P (f d) (flat_map f cs) all in
      elim (or_cases (eq c d) (list_any (eq c) cs) is) [
        | inl here ↦ subst (λ (y : X). AllByRecursion P (f y)) (sym ((law c d).0 here)) parts.0
        | inr later ↦ of_flat P f cs c later parts.1
      ]

  of_down : (P : X → Type 0) (levels k : ℕ) (x top : X) → k < levels
      → climbed eq (suc k) es x ≡ Some top → AllByRecursion P (levels_down forks levels top) → P x
  of_down P zero k x top less is all = absurd (omega (arith, less))
  of_down P (suc levels) zero x top less is all =
      let last = climb_last eq law 0 es x top is in
      let block = of_flat P (λ c. c ∷ levels_down forks levels c) (forks top) last.0
      (are.listed last.0 top last.2) all in
      subst P (sym (some_same last.1)) block.0
  of_down P (suc levels) (suc k) x top less is all =
      let last = climb_last eq law (suc k) es x top is in
      let block = of_flat P (λ c. c ∷ levels_down forks levels c) (forks top) last.0
      (are.listed last.0 top last.2) all in
      of_down P levels k x last.0 (omega (arith, less)) last.1 block.1

  -- where there are no fewer levels than forks, all that are below are listed
  pub of_below : (P : X → Type 0) (levels : ℕ) (x top : X) → length es ≤ levels → Below x top
      → AllByRecursion P (levels_down forks levels top) → P x
  of_below P levels x top enough below all =
      let steps = few eq law es (suc below.0) x top are.forest below.1 in
      of_down P levels below.0 x top (omega (arith, steps, enough)) below.1 all

  -- those below some forks of a collection lead to no other fork of it
  others_clear : (k : ℕ) (c n : X) → Follows c n
      → (cs : List X) → AllByRecursion (λ d. Follows d n) cs
      → AllByRecursion (λ d. d ≢ c) cs
      → AllByRecursion (λ x. (Leads x c → ⊥) × Below x n)
      (flat_map (λ d. d ∷ levels_down forks k d) cs)
  others_clear k c n m [] all apart = tt
  others_clear k c n m (d ∷ cs) all apart =
      let not_this : (x : X) → Leads x d → (Leads x c → ⊥) × Below x n =
      λ x way. (
        (λ other. apart.0 (one_fork x d c n way other all.0 m)),
        above_it x d n way all.0,
      ) in
      all_both (λ x. (Leads x c → ⊥) × Below x n) (d ∷ levels_down forks k d)
      (flat_map (λ d. d ∷ levels_down forks k d) cs) (
        not_this d (0, refl),
        all_so (λ x. Below x d) (λ x. (Leads x c → ⊥) × Below x n)
            (λ x b. not_this x (leads x d b)) (levels_down forks k d) (down_below k d),
      )
      (others_clear k c n m cs all.1 apart.1)

-- ---- steps

module _ {X S : Type 0} (turn : X → S → S) (Quiet : X → S → Type 0) where
  -- one step after another
  abbrev pub walked : List X → S → S
  walked [] s = s
  walked (c ∷ cs) s = walked cs (turn c s)

  -- each of them was quiet
  abbrev pub AllQuiet : List X → S → Type 0
  AllQuiet [] s = Unit {0}
  AllQuiet (c ∷ cs) s = Quiet c s × AllQuiet cs (turn c s)

  pub walked_on : (xs ys : List X) (s : S) → walked (xs ++ ys) s ≡ walked ys (walked xs s)
  walked_on [] ys s = refl
  walked_on (x ∷ xs) ys s = walked_on xs ys (turn x s)

  pub quiet_parts : (xs ys : List X) (s : S) → AllQuiet (xs ++ ys) s
      → AllQuiet xs s × AllQuiet ys (walked xs s)
  quiet_parts [] ys s all = (tt, all)
  quiet_parts (x ∷ xs) ys s all =
      let parts = quiet_parts xs ys (turn x s) all.1 in ((all.0, parts.0), parts.1)

  -- What holds of each step, of a fork and its master: it writes these two alone, and its fork
  -- alone where nothing is to be pushed; it leaves what is to be pushed elsewhere; and where it is
  -- quiet nothing is to be pushed, and both are equal.
  pub record AreTurns (eq : X → X → Bool) (es : List (X × X)) {D : Type 0} (documents : S → X → D)
      (Settled : S → X → Type 0) (Equal : S → X → X → Type 0) (Good : S → Type 0)
      (In : X → Type 0) : Type 0 where
    pub good : (c n : X) (s : S) → master_of eq es c ≡ Some n → In n → Good s → Quiet c s
        → Good (turn c s)
    pub writes : (c n y : X) (s : S) → master_of eq es c ≡ Some n → In n → Good s → y ≢ c → y ≢ n
        → documents (turn c s) y ≡ documents s y
    pub idle : (c n y : X) (s : S) → master_of eq es c ≡ Some n → In n → Good s
        → Settled s c → y ≢ c
        → documents (turn c s) y ≡ documents s y
    pub keeps : (c n y : X) (s : S) → master_of eq es c ≡ Some n → In n → Good s → y ≢ c → y ≢ n
        → Settled s y → Settled (turn c s) y
    pub settles : (c n : X) (s : S) → master_of eq es c ≡ Some n → In n → Good s → Quiet c s
        → Settled (turn c s) c
    pub equal : (c n : X) (s : S) → master_of eq es c ≡ Some n → In n → Good s → Quiet c s
        → Equal (turn c s) c n
    pub inside : (c n : X) → master_of eq es c ≡ Some n → In n → In c
    pub itself : (n : X) (s : S) → Equal s n n
    pub through : (a b c : X) (s : S) → Equal s a b → Equal s b c → Equal s a c
    pub stays : (a b : X) (s t : S) → documents t a ≡ documents s a
        → documents t b ≡ documents s b → Equal s a b → Equal t a b

-- ---- both walks

module _ {X S : Type 0} (turn : X → S → S) (Quiet : X → S → Type 0) (eq : X → X → Bool)
    (law : (m n : X) → Decides (eq m n) (m ≡ n)) (es : List (X × X)) (forks : X → List X)
    (are : AreForks eq es forks) {D : Type 0} (documents : S → X → D) (Settled : S → X → Type 0)
    (Equal : S → X → X → Type 0) (Good : S → Type 0) (In : X → Type 0)
    (laws : AreTurns turn Quiet eq es documents Settled Equal Good In) where
  -- up: nothing is to be pushed below the collection, and only it and those below it were written
  record IsUp (n : X) (cs xs : List X) (s t : S) : Type 0 where
    good : Good t
    settled : AllByRecursion (Settled t) xs
    same : (y : X) → y ≢ n → LeadsToNone eq law es forks are y cs → documents t y ≡ documents s y
    still : (y : X) → y ≢ n → LeadsToNone eq law es forks are y cs → Settled s y → Settled t y

  abbrev below_up : ℕ → List X → List X
  below_up k cs = flat_map (λ c. levels_up forks k c ++ c ∷ []) cs

  up_forks : (k : ℕ)
      → ((c : X) → In c → (s : S) → Good s → AllQuiet turn Quiet (levels_up forks k c) s
      → IsUp c (forks c) (levels_up forks k c) s (walked turn Quiet (levels_up forks k c) s))
      → (n : X) → In n → (cs : List X) → AllByRecursion (λ c. Follows eq law es forks are c n) cs
      → AreApart cs → (s : S)
      → Good s → AllQuiet turn Quiet (below_up k cs) s
      → IsUp n cs (below_up k cs) s (walked turn Quiet (below_up k cs) s)
  up_forks k each n in_tree [] all apart s good quiet = record {
    good = good;
    settled = tt;
    same = λ y other none. refl;
    still = λ y other none is. is;
  }
  up_forks k each n in_tree (c ∷ cs) all apart s good quiet =
      let xs = levels_up forks k c in
      let rest = below_up k cs in
      let q = quiet_parts turn Quiet (xs ++ c ∷ []) rest s quiet in
      let p = quiet_parts turn Quiet xs (c ∷ []) s q.0 in
      let s1 = walked turn Quiet xs s in
      let s2 = turn c s1 in
      let first = each c (laws.inside c n all.0 in_tree) s good p.0 in
      let here : walked turn Quiet (xs ++ c ∷ []) s ≡ s2 = walked_on turn Quiet xs (c ∷ []) s in
      let good2 = laws.good c n s1 all.0 in_tree first.good p.1.0 in
      let then = up_forks k each n in_tree cs all.1 apart.1 s2 good2
      (subst (AllQuiet turn Quiet rest) here q.1) in
      let t = walked turn Quiet rest s2 in
      let all_clear = clear eq law es forks are c n cs all.0 all.1 apart.0 in
      let settled : AllByRecursion (Settled t) (xs ++ c ∷ []) =
      all_both (Settled t) xs (c ∷ [])
      (all_so (λ x. Settled s1 x × Below eq law es forks are x c) (Settled t)
      (λ x h. then.still x (not_above eq law es forks are x c n h.1 all.0)
      (all_clear x (leads eq law es forks are x c h.1))
      (laws.keeps c n x s1 all.0 in_tree first.good (not_itself eq law es forks are x c h.1)
      (not_above eq law es forks are x c n h.1 all.0) h.0)) xs
      (all_zip (Settled s1) (λ x. Below eq law es forks are x c) xs first.settled
      (up_below eq law es forks are k c))) (
        then.still c (fork_isnt eq law es forks are c n all.0) (all_clear c (0, refl))
            (laws.settles c n s1 all.0 in_tree first.good p.1.0),
        tt,
      ) in
      subst (IsUp n (c ∷ cs) (below_up k (c ∷ cs)) s)
      (sym (walked_on turn Quiet (xs ++ c ∷ []) rest s ∙ ap (walked turn Quiet rest) here))
      (record {
        good = then.good;
        settled = all_both (Settled t) (xs ++ c ∷ []) rest settled then.settled;
        same = λ y other none.
            let apart_c : y ≢ c = λ is. none.0 (0, ap Some is) in
            then.same y other none.1
            ∙ laws.writes c n y s1 all.0 in_tree first.good apart_c other
            ∙ first.same y apart_c (none_below eq law es forks are y c none.0);
        still = λ y other none is.
            let apart_c : y ≢ c = λ is. none.0 (0, ap Some is) in
            then.still y other none.1
            (laws.keeps c n y s1 all.0 in_tree first.good apart_c other
            (first.still y apart_c (none_below eq law es forks are y c none.0) is));
      })

  up_levels : (k : ℕ) (c : X) → In c → (s : S) → Good s
      → AllQuiet turn Quiet (levels_up forks k c) s
      → IsUp c (forks c) (levels_up forks k c) s (walked turn Quiet (levels_up forks k c) s)
  up_levels zero c in_tree s good quiet = record {
    good = good;
    settled = tt;
    same = λ y other none. refl;
    still = λ y other none is. is;
  }
  up_levels (suc k) c in_tree s good quiet =
      up_forks k (up_levels k) c in_tree (forks c) (are.follow c) (are.apart c) s
      good quiet

  -- down: each fork below the collection is equal to its master,
  -- and only those below it were written
  record IsDown (n : X) (cs xs : List X) (s t : S) : Type 0 where
    good : Good t
    equal : AllByRecursion (λ x. (m : X) → Follows eq law es forks are x m → Equal t x m) xs
    same : (y : X) → LeadsToNone eq law es forks are y cs → documents t y ≡ documents s y
    still : (y : X) → y ≢ n → LeadsToNone eq law es forks are y cs → Settled s y → Settled t y

  abbrev below_down : ℕ → List X → List X
  below_down k cs = flat_map (λ c. c ∷ levels_down forks k c) cs

  down_forks : (k : ℕ)
      → ((c : X) → In c → (s : S) → Good s → AllByRecursion (Settled s) (levels_down forks k c)
      → AllQuiet turn Quiet (levels_down forks k c) s
      → IsDown c (forks c) (levels_down forks k c) s (walked turn Quiet (levels_down forks k c) s))
      → (n : X) → In n → (cs : List X) → AllByRecursion (λ c. Follows eq law es forks are c n) cs
      → AreApart cs → (s : S)
      → Good s → AllByRecursion (Settled s) (below_down k cs)
      → AllQuiet turn Quiet (below_down k cs) s
      → IsDown n cs (below_down k cs) s (walked turn Quiet (below_down k cs) s)
  down_forks k each n in_tree [] all apart s good ready quiet = record {
    good = good;
    equal = tt;
    same = λ y none. refl;
    still = λ y other none is. is;
  }
  down_forks k each n in_tree (c ∷ cs) all apart s good ready quiet =
      let xs = levels_down forks k c in
      let rest = below_down k cs in
      let parts = all_parts (Settled s) xs rest ready.1 in
      let s1 = turn c s in
      let q = quiet_parts turn Quiet xs rest s1 quiet.1 in
      let good1 = laws.good c n s all.0 in_tree good quiet.0 in
      let ready1 = all_so (λ x. Settled s x × Below eq law es forks are x c) (Settled s1)
      (λ x h. laws.keeps c n x s all.0 in_tree good (not_itself eq law es forks are x c h.1)
      (not_above eq law es forks are x c n h.1 all.0) h.0) xs
      (all_zip (Settled s) (λ x. Below eq law es forks are x c) xs parts.0
      (down_below eq law es forks are k c)) in
      let first = each c (laws.inside c n all.0 in_tree) s1 good1 ready1 q.0 in
      let s2 = walked turn Quiet xs s1 in
      let ready2 = all_so (λ x.
      Settled s x × ((Leads eq law es forks are x c → ⊥) × Below eq law es forks are x n))
      (Settled s2)
      (λ x h.
      let other : x ≢ c = λ is. h.1.0 (0, ap Some is) in
      first.still x other (none_below eq law es forks are x c h.1.0)
      (laws.keeps c n x s all.0 in_tree good other (not_itself eq law es forks are x n h.1.1) h.0))
      rest
      (all_zip (Settled s)
      (λ x. (Leads eq law es forks are x c → ⊥) × Below eq law es forks are x n) rest parts.1
      (others_clear eq law es forks are k c n all.0 cs all.1 apart.0)) in
      let then = down_forks k each n in_tree cs all.1 apart.1 s2 first.good ready2 q.1 in
      let t = walked turn Quiet rest s2 in
      let all_clear = clear eq law es forks are c n cs all.0 all.1 apart.0 in
      let master_clear : LeadsToNone eq law es forks are n cs =
      all_so (λ d. Follows eq law es forks are d n) (λ d. Leads eq law es forks are n d → ⊥)
      (λ d m. never_down eq law es forks are n d m) cs all.1 in
      let here : (m : X) → Follows eq law es forks are c m → Equal t c m =
      λ m at.
      subst (Equal t c) (some_same (sym all.0 ∙ at))
      (laws.stays c n s2 t (then.same c (all_clear c (0, refl))) (then.same n master_clear)
      (laws.stays c n s1 s2 (first.same c (fork_none eq law es forks are c))
      (first.same n (master_none eq law es forks are c n all.0))
      (laws.equal c n s all.0 in_tree good quiet.0))) in
      let below : AllByRecursion (λ x. (m : X) → Follows eq law es forks are x m → Equal t x m) xs =
      all_so (λ x.
      ((m : X) → Follows eq law es forks are x m → Equal s2 x m) × Below eq law es forks are x c)
      (λ x. (m : X) → Follows eq law es forks are x m → Equal t x m)
      (λ x h m at.
      let way = some_then (master_of eq es x) (climbed eq h.1.0 es) c h.1.1 in
      let up : Leads eq law es forks are m c = (
        h.1.0,
        subst (λ (y : X). climbed eq h.1.0 es y ≡ Some c) (some_same (sym way.1 ∙ at))
            way.2,
      ) in
      laws.stays x m s2 t (then.same x (all_clear x (leads eq law es forks are x c h.1)))
      (then.same m (all_clear m up)) (h.0 m at)) xs
      (all_zip (λ x. (m : X) → Follows eq law es forks are x m → Equal s2 x m)
      (λ x. Below eq law es forks are x c) xs
      first.equal (down_below eq law es forks are k c)) in
      subst (IsDown n (c ∷ cs) (below_down k (c ∷ cs)) s) (sym (walked_on turn Quiet xs rest s1))
      (record {
        good = then.good;
        equal = (
          here,
          all_both (λ x. (m : X) → Follows eq law es forks are x m → Equal t x m) xs rest below
              then.equal,
        );
        same = λ y none.
            let apart_c : y ≢ c = λ is. none.0 (0, ap Some is) in
            then.same y none.1
            ∙ first.same y (none_below eq law es forks are y c none.0)
            ∙ laws.idle c n y s all.0 in_tree good ready.0 apart_c;
        still = λ y other none is.
            let apart_c : y ≢ c = λ is. none.0 (0, ap Some is) in
            then.still y other none.1
            (first.still y apart_c (none_below eq law es forks are y c none.0)
            (laws.keeps c n y s all.0 in_tree good apart_c other is));
      })

  down_levels : (k : ℕ) (c : X) → In c → (s : S) → Good s
      → AllByRecursion (Settled s) (levels_down forks k c)
      → AllQuiet turn Quiet (levels_down forks k c) s
      → IsDown c (forks c) (levels_down forks k c) s (walked turn Quiet (levels_down forks k c) s)
  down_levels zero c in_tree s good ready quiet = record {
    good = good;
    equal = tt;
    same = λ y none. refl;
    still = λ y other none is. is;
  }
  down_levels (suc k) c in_tree s good ready quiet =
      down_forks k (down_levels k) c in_tree (forks c) (are.follow c)
      (are.apart c) s good ready quiet

  -- ---- one after the other

  -- what is equal to its master at each step is equal to where it leads
  equal_up : (top : X) (t : S)
      → ((x m : X) → Below eq law es forks are x top
      → Follows eq law es forks are x m → Equal t x m)
      → (k : ℕ) (x : X)
      → climbed eq k es x ≡ Some top → Equal t x top
  equal_up top t each zero x way = subst (Equal t x) (some_same way) (laws.itself x t)
  equal_up top t each (suc k) x way =
      let found = some_then (master_of eq es x) (climbed eq k es) top way in
      laws.through x found.0 top t (each x found.0 (k, way) found.1)
      (equal_up top t each k found.0 found.2)

  -- where each step up and then down is quiet, each collection of the tree equals its root
  pub walk_ends_equal : (levels : ℕ) (top : X) → In top → (s : S) → length es ≤ levels → Good s
      → AllQuiet turn Quiet (levels_up forks levels top ++ levels_down forks levels top) s → (x : X)
      → Reaches eq es x top
      → Equal
      (walked turn Quiet (levels_up forks levels top ++ levels_down forks levels top) s) x top
  walk_ends_equal levels top in_tree s enough good quiet x way =
      let rise = levels_up forks levels top in
      let fall = levels_down forks levels top in
      let q = quiet_parts turn Quiet rise fall s quiet in
      let s1 = walked turn Quiet rise s in
      let rising = up_levels levels top in_tree s good q.0 in
      let ready = as_down eq law es forks are (Settled s1) levels top rising.settled in
      let falling = down_levels levels top in_tree s1 rising.good ready q.1 in
      let t = walked turn Quiet fall s1 in
      subst (λ (u : S). Equal u x top) (sym (walked_on turn Quiet rise fall s))
      (equal_up top t
      (λ y m below at.
      of_below eq law es forks are (λ z. (m : X) → Follows eq law es forks are z m → Equal t z m)
      levels y top enough below falling.equal m at) way.0 x way.1)
