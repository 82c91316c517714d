-- The rows from scratch are those of the one result.
use Rattle.std.proofs.Common.{◌≡◌, ℕ, Bor, List, [], ◌∷◌, map, Some, refl, sym, ap, subst}
use Rattle.std.specs.Map.{values_of}
use Rattle.rx_value.specs.Named.{named}
use Rattle.rx_value.specs.declared.value.Value.TheVariants.{Text}
use Rattle.rx_value.proofs.Lists.{all_weaker}
use Rattle.rx_document.specs.Documents.{Documents}
use Rattle.rx_document.specs.declared.stored.Stored.{Stored}
use Rattle.rx_query.proofs.Rows.{one_result, are_keyed}
use Rattle.rx_query.specs.QuerySpec.{QuerySpec}
use Rattle.rx_query.specs.Result.{result_of, row_of, fresh_rows, AreKeyed, IsCollection}
use Rattle.rx_collection.specs.Held.{Held}
use Rattle.rx_collection.specs.Lawful.{IsHeldAt, IsLawful}
use Rattle.rx_observe.specs.Laws.{RowsAreFromScratch}

-- the documents of a lawful collection are such, for each query that goes by its primary key
pub is_collection_for : (primary : List ℕ) (c : Held) → primary ≡ c.schema.primary → IsLawful c
    → IsCollection primary c.documents
is_collection_for primary c same lawful =
    let own = c.schema.primary in
    subst (λ k. IsCollection k c.documents) (sym same) (record {
      rising = lawful.rising;
      keyed = all_weaker (λ (e : List ℕ × Stored). IsHeldAt own e.0 e.1)
          (λ e. e.1.state.key ≡ e.0) (λ e h. h.keyed) c.documents lawful.each;
      carried = all_weaker (λ (e : List ℕ × Stored). IsHeldAt own e.0 e.1)
          (λ e. named e.1.state.fields own ≡ Some (Text e.1.state.key)) (λ e h. h.carried)
          c.documents lawful.each;
    })

-- so their keys are distinct
pub keyed_for : (primary : List ℕ) (c : Held) → primary ≡ c.schema.primary → IsLawful c
    → AreKeyed primary (values_of c.documents)
keyed_for primary c same lawful =
    are_keyed primary c.documents (is_collection_for primary c same lawful)

-- the rows of what is found are those from scratch
pub found_fresh : (q : QuerySpec) (ds : Documents) (docs : List Stored)
    → docs ≡ result_of q (values_of ds) → map row_of docs ≡ fresh_rows q ds
unfolding fresh_rows
found_fresh q ds docs is = ap (map row_of) is

pub from_scratch : RowsAreFromScratch
unfolding fresh_rows
from_scratch c q lawful keyed = record {
  found = one_result q (values_of c.documents) (keyed_for q.primary c keyed lawful);
  rows = refl;
}

-- the rows of lent documents
pub lent_rows : (docs : List (Bor Stored))
    → map (λ d. row_of d.now) docs ≡ map row_of (map (λ d. d.now) docs)
lent_rows [] = refl
lent_rows (d ∷ ds) = ap (λ rows. row_of d.now ∷ rows) (lent_rows ds)
