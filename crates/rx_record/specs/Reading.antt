-- Reading parts from the front of bytes, one after another.
use Rattle.std.specs.Prelude.{◌≡◌, ℕ, List, [], ◌∷◌, Bool, true, false, Result, Ok, Err}
use Rattle.std.specs.Borrow.{Bor}

-- a part and the bytes after it; or the fault, told by how many bytes stand from the faulty part on
abbrev pub Reading : Type 0 → Type 0
Reading A = Result (A × List ℕ) ℕ

-- one part after another: the first fault decides
infixl 10 ◌▸◌
abbrev pub ◌▸◌ : {A B : Type 0} → Reading A → (A → List ℕ → Reading B) → Reading B
(Ok p) ▸ f = f p.0 p.1
(Err left) ▸ f = Err left

-- what was read is what is due, as `view` sees it
abbrev pub Reads : {X Y : Type 0} → (X → Y) → Result (X × Bor (List ℕ)) ℕ → Reading Y → Type 0
Reads view (Ok p) due = due ≡ Ok (view p.0, p.1.now)
Reads view (Err left) due = due ≡ Err left

-- the bytes after what is read, or the fault
abbrev pub rest_after : {A : Type 0} → Reading A → Result (List ℕ) ℕ
rest_after (Ok p) = Ok p.1
rest_after (Err left) = Err left

-- it was passed over
abbrev pub Skips : {A : Type 0} → Result (Bor (List ℕ)) ℕ → Reading A → Type 0
Skips (Ok rest) due = rest_after due ≡ Ok rest.now
Skips (Err left) due = due ≡ Err left

-- it was read, whatever stands behind it
abbrev pub is_read : {A : Type 0} → Reading A → Bool
is_read (Ok p) = true
is_read (Err left) = false

-- it was read to the end of the bytes
abbrev pub is_whole : {A : Type 0} → Reading A → Bool
is_whole (Ok (x, [])) = true
is_whole (Ok (x, b ∷ bs)) = false
is_whole (Err left) = false

-- what was read, or this where there is a fault
abbrev pub read_or : {A : Type 0} → A → Reading A → A
read_or none (Ok p) = p.0
read_or none (Err left) = none
