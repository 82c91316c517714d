-- Reading one thing after another.
use Rattle.std.proofs.Common.{◌≡◌, List, [], ◌∷◌, ◌++◌, map, Result, Ok, Err, refl, sym, ap, ◌∙◌, append_assoc}
use Rattle.std.proofs.lemmas.List.{map_push}
use Rattle.rx_value.specs.Due.{◌>>◌}

-- what was read so far, before what is read next
abbrev pub before : {X E : Type 0} → List X → Result (List X) E → Result (List X) E
before front rest = rest >> λ xs. Ok (front ++ xs)

-- a thing that was read goes to the end of those so far
before-first : {X E : Type 0} (front : List X) (x : X) (rest : Result (List X) E)
    → before front (rest >> λ xs. Ok (x ∷ xs)) ≡ before (front ++ x ∷ []) rest
before-first front x (Ok xs) = ap Ok (sym (append_assoc front (x ∷ []) xs))
before-first front x (Err e) = refl

-- one more thing that was read
pub more : {X E : Type 0} (front : List X) (x : X) (r : Result X E) (rest : Result (List X) E)
    → r ≡ Ok x → before front (r >> λ y. rest >> λ xs. Ok (y ∷ xs)) ≡ before (front ++ x ∷ []) rest
more front x r rest h = rw h (before-first front x rest)

-- one more thing that was read, as it is seen
pub more_seen : {X Y E : Type 0} (view : X → Y) (done : List X) (x : X) (r : Result Y E)
    (rest : Result (List Y) E) → r ≡ Ok (view x)
    → before (map view done) (r >> λ y. rest >> λ ys. Ok (y ∷ ys))
    ≡ before (map view (done ++ x ∷ [])) rest
more_seen view done x r rest h =
    more (map view done) (view x) r rest h ∙ ap (λ xs. before xs rest) (sym (map_push view done x))
