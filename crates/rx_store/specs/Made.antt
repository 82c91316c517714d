-- Holders as the records of a journal make them.
use Rattle.std.specs.Prelude.{◌≡◌, ℕ, List, [], ◌∷◌}
use Rattle.std.specs.List.{AllByRecursion}
use Rattle.rx_collection.specs.Held.{Held}
use Rattle.rx_document.specs.declared.stored.Stored.{Stored}

-- a holder after the rows of some records
abbrev pub after_rows : {H : Type 0} → (H → List Stored → H) → H → List (List Stored) → H
after_rows written h [] = h
after_rows written h (rows ∷ more) = after_rows written (written h rows) more

-- it was made of a collection, and then took the rows of some records
pub record IsMade
    {H : Type 0}
    (Makes : Held → H → Type 0)
    (written : H → List Stored → H)
    (h : H) : Type 0 where
  pub collection : Held
  pub first : H
  pub made : Makes collection first
  pub taken : List (List Stored)
  pub is : h ≡ after_rows written first taken

-- each of the holders was
abbrev pub AreMade
    : {H : Type 0} → (Held → H → Type 0) → (H → List Stored → H) → List (List ℕ × H) → Type 0
AreMade Makes written hs = AllByRecursion (λ e. IsMade Makes written e.1) hs
