use Rattle.std.proofs.Common.{◌≡◌, ◌∙◌, Bool, true, false, ◌&&◌, nat_lt, length, Option, Some, None, is_some, is_none, option_map, refl, ap, sym, arith, rules}
use Rattle.std.proofs.lemmas.Grind.{common_steps}
use Rattle.rx_value.specs.Name.{is_name}
use Rattle.rx_value.specs.Named.{by_name, named}
use Rattle.rx_world.specs.Schema.{schema_in}
use Rattle.rx_world.specs.World.{max_collections}
use Rattle.rx_world.proofs.legality.is_new.Goals as goal

-- the last of four tests decides, where the others hold
last : (a b c d : Bool) → a ≡ true → b ≡ true → c ≡ true → d ≡ (a && b && c && d)
last a b c d p q r = rw (p, q, r) refl

-- the third test fails
third : (a b c d : Bool) → c ≡ false → false ≡ (a && b && c && d)
third true true c d r = rw r refl
third true false c d r = refl
third false b c d r = refl

none_found : {A B : Type 0} (f : A → B) (o : Option A) (n : Option B) → option_map f o ≡ n
    → is_some o ≡ false → is_none n ≡ true
none_found f None n is none = ap is_none (sym is)
none_found f (Some x) n is none = cc

pub returns : goal.returns
returns g c =
    let cs = by_name g.H.Holder.held c.args.parts.now.holders.entries in
    let named' : is_name c.args.name.now ≡ true = search rules in
    let room : nat_lt (length cs) max_collections ≡ true = grind (arith, common_steps) in
    c.is_some-2.ensures ∙ ap is_some c.in_ok-schema_in.ensures
    ∙ last _ _ _ _ named'
    (none_found _ c.find.result _ c.find.ensures.held (sym c.if-is_some.ensures)) room

pub returns-then-len-ge-MAX_COLLECTIONS : goal.returns-then-len-ge-MAX_COLLECTIONS
returns-then-len-ge-MAX_COLLECTIONS g c =
    let cs = by_name g.H.Holder.held c.args.parts.now.holders.entries in
    let room : nat_lt (length cs) max_collections ≡ false = grind (arith, common_steps) in
    third (is_name c.args.name.now) (is_none (named cs c.args.name.now)) _
    (is_some (schema_in c.args.schema.now)) room
