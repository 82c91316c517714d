-- Holders that the records of a journal make.
use Rattle.std.proofs.Common.{◌≡◌, ℕ, List, [], ◌∷◌, ◌++◌, refl, ap, ◌∙◌}
use Rattle.rx_collection.specs.Held.{Held}
use Rattle.rx_document.specs.declared.stored.Stored.{Stored}
use Rattle.rx_world.specs.Holders.{After}
use Rattle.rx_world.specs.Touch.{Touch}
use Rattle.rx_world.proofs.Holding.{after_all}
use Rattle.rx_store.specs.Made.{after_rows, IsMade, AreMade}

module _ {H : Type 0} (Makes : Held → H → Type 0) (written : H → List Stored → H) where
  after_rows-append : (h : H) (taken : List (List Stored)) (more : List Stored)
      → written (after_rows written h taken) more ≡ after_rows written h (taken ++ more ∷ [])
  after_rows-append h [] more = refl
  after_rows-append h (x ∷ taken) more = after_rows-append (written h x) taken more

  -- a new one
  pub new_made : (c : Held) (h : H) → Makes c h → IsMade Makes written h
  new_made c h made = record { collection = c; first = h; made = made; taken = []; is = refl }

  -- one after the rows of another record
  pub more_made : (h : H) (more : List Stored) → IsMade Makes written h
      → IsMade Makes written (written h more)
  more_made h more m = record {
    collection = m.collection;
    first = m.first;
    made = m.made;
    taken = m.taken ++ more ∷ [];
    is = ap (λ h. written h more) m.is ∙ after_rows-append m.first m.taken more;
  }

  -- all are made so after a record
  pub made_after : (held : H → Held) (t : Touch) (old new : List (List ℕ × H))
      → After held written Makes t old new → AreMade Makes written old → AreMade Makes written new
  made_after held = after_all (IsMade Makes written) held written Makes new_made more_made
