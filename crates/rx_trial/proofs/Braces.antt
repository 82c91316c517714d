-- Each line of a script begins with a brace, and how many lines there are.
use Rattle.std.proofs.Common.{◌≡◌, refl, ℕ, zero, suc, ◌+◌, List, [], ◌∷◌, ◌++◌, map, length, All, Some, slice_get, arith, length-append}
use Rattle.std.proofs.lemmas.List.{length-map}
use Rattle.std.proofs.lemmas.List.Elements.{All-cons}
use Rattle.rx_trial.specs.Drawing.{line}
use Rattle.rx_trial.specs.Lines.{drawn, opening, script}
use Rattle.rx_trial.specs.Printing.{text}
use Rattle.rx_trial.specs.declared.line.Line.{Line}
use Rattle.rx_trial.specs.declared.line.Line.TheVariants.{Collection, Replicate, ObserveFork, ObserveMaster, Upsert, Remove, Patch, Tick, Restart, LinkedTurn, Turn, LastTurn}

abbrev pub IsBraced : List ℕ → Type 0
IsBraced line = slice_get line 0 ≡ Some 123

braced : (l : Line) → IsBraced (text l)
braced (Collection side) = refl
braced Replicate = refl
braced ObserveFork = refl
braced ObserveMaster = refl
braced (Upsert side key n on) = refl
braced (Remove side key) = refl
braced (Patch key n) = refl
braced (Tick at) = refl
braced Restart = refl
braced (LinkedTurn batch first second third) = refl
braced Turn = refl
braced LastTurn = refl

all_braced : (ls : List Line) → All IsBraced (map text ls)
all_braced [] = λ k d low. absurd (omega (arith, low))
all_braced (l ∷ ls) = All-cons IsBraced (text l) (map text ls) (braced l) (all_braced ls)

pub script_braced : (seed n : ℕ) → All IsBraced (script seed n)
script_braced seed n = all_braced (opening ++ (drawn n seed ++ LastTurn ∷ []))

length-drawn : (n x : ℕ) → length (drawn n x) ≡ n
length-drawn zero x = refl
length-drawn (suc n) x = let more = length-drawn n (line x).state in omega (arith, more)

pub length-script : (seed n : ℕ) → length (script seed n) ≡ n + 6
length-script seed n =
    let last : List Line = LastTurn ∷ [] in
    omega (
      arith,
      length-map (opening ++ (drawn n seed ++ last)) text,
      length-append opening (drawn n seed ++ last),
      length-append (drawn n seed) last,
      length-drawn n seed,
    )
