-- A thing that is added under a name that isn't there.
use Rattle.std.proofs.Common.{◌≡◌, ℕ, Bool, true, false, cond, List, [], ◌∷◌, ◌++◌, Option, Some, None, is_some, is_none, String, Global, string_bytes, refl, ap, ◌∙◌}
use Rattle.std.specs.Map.{lookup}
use Rattle.std.specs.Prelude.{Ok, Err}
use Rattle.std.specs.Str.{bytes_eq}
use Rattle.std.specs.String.{string_eq}
use Rattle.indexmap.specs.IndexMap.{insert_entry}
use Rattle.rx_value.specs.Due.{demand}
use Rattle.rx_value.specs.Named.{by_name, named, put_named}
use Rattle.rx_value.proofs.Named.{by_name-insert_entry, lookup-by_name}
use Rattle.rx_value.proofs.Outcomes.{some_mapped}
use Rattle.rx_handler.specs.declared.fault.HandlerFault.TheVariants.{Twice}
use Rattle.rx_handler.specs.declared.kind.HandlerKind.{HandlerKind}

-- one thing, and then the others
put_step : {X : Type 0} (same : Bool) (e : List ℕ × X) (es : List (List ℕ × X)) (name : List ℕ)
    (x : X) → cond same (Some e.1) (named es name) ≡ None
    → (named es name ≡ None → put_named es name x ≡ es ++ (name, x) ∷ [])
    → cond same ((e.0, x) ∷ es) (e ∷ put_named es name x) ≡ e ∷ es ++ (name, x) ∷ []
put_step true e es name x none rest = cc
put_step false e es name x none rest = ap (λ r. e ∷ r) (rest none)

-- it comes to the end
put_named-new : {X : Type 0} (es : List (List ℕ × X)) (name : List ℕ) (x : X)
    → named es name ≡ None → put_named es name x ≡ es ++ (name, x) ∷ []
put_named-new [] name x none = refl
put_named-new (e ∷ es) name x none =
    put_step (bytes_eq name e.0) e es name x none (put_named-new es name x)

-- so it does in a map
pub added : {H X : Type 0} (shown : H → X) (es new : List (String Global × H)) (key : String Global)
    (name : List ℕ) (h : H) → string_bytes key ≡ name → new ≡ insert_entry string_eq es key h
    → named (by_name shown es) name ≡ None
    → by_name shown new ≡ by_name shown es ++ (name, shown h) ∷ []
added shown es new key name h is written none =
    ap (by_name shown) written ∙ by_name-insert_entry shown es key h
    ∙ ap (λ k. put_named (by_name shown es) k (shown h)) is
    ∙ put_named-new (by_name shown es) name (shown h) none

-- whether a name is there
pub there : {H X : Type 0} (shown : H → X) (es : List (String Global × H)) (looked name : List ℕ)
    (b : Bool) → looked ≡ name → b ≡ is_some (lookup (λ k. bytes_eq looked (string_bytes k)) es)
    → b ≡ is_some (named (by_name shown es) name)
there shown es looked name b same is =
    is ∙ some_mapped shown (lookup (λ k. bytes_eq looked (string_bytes k)) es)
    ∙ ap is_some (lookup-by_name shown es looked)
    ∙ ap (λ n. is_some (named (by_name shown es) n)) same

-- there is nothing
pub nothing : {X : Type 0} (o : Option X) → false ≡ is_some o → o ≡ None
nothing None is = refl
nothing (Some x) is = cc

-- a name that is there is told
pub told : (o : Option HandlerKind) (name : List ℕ) → true ≡ is_some o
    → demand (is_none o) (Twice name) ≡ Err (Twice name)
told (Some x) name is = refl
told None name is = cc

-- and one that isn't is not
pub untold : (o : Option HandlerKind) (name : List ℕ) → o ≡ None
    → demand (is_none o) (Twice name) ≡ Ok tt
untold None name is = refl
untold (Some x) name is = cc
