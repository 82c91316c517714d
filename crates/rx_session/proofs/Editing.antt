-- What a call on the collection of a name leaves.
use Rattle.std.proofs.Common.{◌≡◌, ℕ, true, false, cond, List, [], ◌∷◌, Option, Some, None, option_map, IfSome, Result, Ok, Err, OnOk, refl, sym, ap, ◌∙◌, subst}
use Rattle.std.proofs.lemmas.Option.{same_Some}
use Rattle.std.proofs.lemmas.Slice.Eq.{bytes_eq-Decides}
use Rattle.std.specs.Borrow.{MutBor}
use Rattle.std.specs.Fn.{Once, FnOnceReturnsAtMut}
use Rattle.std.specs.Option.{IfNone}
use Rattle.std.specs.Str.{bytes_eq}
use Rattle.rx_value.specs.Named.{named, change_named}
use Rattle.rx_value.proofs.Named.{change_named-none}
use Rattle.rx_observe.specs.Observing.{Observing}
use Rattle.rx_world.specs.Edit.{Edited}
use Rattle.rx_world.specs.Holders.{Holders, holders_in}
use Rattle.rx_session.specs.Doing.{has_key}
use Rattle.rx_session.specs.Lives.{IsFree}
use Rattle.rx_session.specs.Placed.{Lives, world_of}
use Rattle.rx_session.proofs.Places.{named-colls, world_colls}

module _ {X : Type 0} where
  -- changes that make the same of the thing of a name leave the same
  pub change_named-alike : (f g : X → X) (es : List (List ℕ × X)) (name : List ℕ) (x : X)
      → named es name ≡ Some x → f x ≡ g x → change_named es name f ≡ change_named es name g
  change_named-alike f g [] name x at same = refl
  change_named-alike f g (e ∷ es) name x at same =
      elim (bytes_eq name e.0) as (λ b. cond b (Some e.1) (named es name) ≡ Some x
      → cond b ((e.0, f e.1) ∷ es) (e ∷ change_named es name f)
      ≡ cond b ((e.0, g e.1) ∷ es) (e ∷ change_named es name g)) [
        | true ↦ (λ at.
            let is : e.1 ≡ x = same_Some e.1 x at in
            ap (λ y. (e.0, y) ∷ es) (ap f is ∙ same ∙ sym (ap g is)))
        | false ↦ (λ at. ap (λ r. e ∷ r) (change_named-alike f g es name x at same))
      ] at

-- where no collection has the name there is nothing to change
pub unedited : {H : Type 0} (name : List ℕ) (old new : Holders H) (change : H → H)
    → named (holders_in old) name ≡ None → new ≡ old
    → holders_in new ≡ change_named (holders_in old) name change
unedited name old new change none same =
    ap holders_in same ∙ change_named-none change (holders_in old) name none

module _ {H F R : Type 0} (g : Once F (MutBor H × Unit {0}) (R × (MutBor H × Unit {0}))) (f : F)
    (name : List ℕ) (old new : Holders H) (change : H → H) where
  -- where the call makes that change, it is there
  pub edited : (r : R) → Edited g f name (holders_in old) (holders_in new) r
      → ((x y : H) → FnOnceReturnsAtMut g f x r y → y ≡ change x)
      → holders_in new ≡ change_named (holders_in old) name change
  edited r done makes =
      done.left
      ∙ change_named-alike (λ h. done.new) change (holders_in old) name done.old done.there
      (makes done.old done.new done.met)

  -- so the change is there whether a collection has the name or not
  pub edited_or_none : (r : Option R)
      → IfSome r (Edited g f name (holders_in old) (holders_in new))
      → IfNone r (named (holders_in old) name ≡ None) → IfNone r (new ≡ old)
      → ((r : R) (x y : H) → FnOnceReturnsAtMut g f x r y → y ≡ change x)
      → holders_in new ≡ change_named (holders_in old) name change
  edited_or_none None done none same makes = unedited name old new change none same
  edited_or_none (Some r) done none same makes = edited r done (makes r)

  -- the same of a call that may fail
  pub edited_if : {S E : Type 0} (r : R) (o : Result S E)
      → Edited g f name (holders_in old) (holders_in new) r
      → ((x y : H) → FnOnceReturnsAtMut g f x r y → OnOk o (y ≡ change x))
      → OnOk o (holders_in new ≡ change_named (holders_in old) name change)
  edited_if r (Ok s) done makes = edited r done makes
  edited_if r (Err e) done makes = tt

-- ---- what a query needs of its collection

-- its name is free among the queries of the collection
pub free_at : (name coll : List ℕ) (ls : Lives) (l : Observing) → IsFree name (named ls coll)
    → named ls coll ≡ Some l → named l.queries name ≡ None
free_at name coll ls l free at = subst (IsFree name) at free

-- the collection has its primary key
pub keyed_at : (primary coll : List ℕ) (h : Holders Observing) (l : Observing)
    → has_key primary (named (world_of h).collections coll) ≡ true
    → named (holders_in h) coll ≡ Some l → primary ≡ l.collection.schema.primary
keyed_at primary coll h l keyed at =
    let held : named (world_of h).collections coll ≡ Some l.collection =
    ap (λ cs. named cs coll) (world_colls h) ∙ named-colls (holders_in h) coll
    ∙ ap (option_map (λ (x : Observing). x.collection)) at in
    (bytes_eq-Decides primary l.collection.schema.primary).0
    (subst (λ o. has_key primary o ≡ true) held keyed)
