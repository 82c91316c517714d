use Rattle.std.proofs.Common.{◌≡◌, ◌-◌, ◌<◌, ◌≤◌, Bor, List, ℕ, IfSome, true, is_none, map, length, refl, ap, sym, ◌∙◌, subst, arith}
use Rattle.std.proofs.lemmas.List.{length-map}
use Rattle.rx_document.specs.declared.stored.Stored.{Stored}
use Rattle.rx_query.specs.QuerySpec.{asked}
use Rattle.rx_index.specs.Index.{ids_between}
use Rattle.rx_index.specs.Position.{Position}
use Rattle.rx_planner.specs.Way.{falls, keys_next, IsCut, HasStepped}
use Rattle.rx_planner.specs.declared.walk.Step.TheVariants.{More}
use Rattle.rx_planner.proofs.Walks.{whole_step, far_step, more_step}
use Rattle.rx_planner.proofs.walk.advance.Goals as goal

-- as many rows, lent
short_so : (rows : List (Bor Stored)) (most : ℕ) → length rows < most
    → length (map (λ r. r.now) rows) < most
short_so rows most h =
    let many = length-map rows (λ (r : Bor Stored). r.now) in omega (arith, many, h)

pub next_cut-requires-clause-low_long : goal.next_cut-requires-clause-low_long
next_cut-requires-clause-low_long g c =
    let now : Bor (List ℕ) → List ℕ = λ f. f.now in
    let many = length-map c.args.names.now now in
    let same = ap length c.requires.way.front in
    let long = c.requires.under.low_long in omega (arith, many, same, long)

pub next_cut-requires-clause-high_long : goal.next_cut-requires-clause-high_long
next_cut-requires-clause-high_long g c =
    let now : Bor (List ℕ) → List ℕ = λ f. f.now in
    let many = length-map c.args.names.now now in
    let same = ap length c.requires.way.front in
    let long = c.requires.under.high_long in omega (arith, many, same, long)

pub returns-in_default : goal.returns-in_default
returns-in_default g c =
    let now : Bor Stored → Stored = λ r. r.now in
    let walk = c.args.walk.now in
    let after = c.take_rest.new.walk in
    whole_step (asked c.args.query.now) (g.T.Lookup.documents c.args.docs.now) c.args.index.now
    (map (λ (f : Bor (List ℕ)). f.now) c.args.names.now) c.requires.way c.requires.way.rising
    (map now walk.rows.items) walk.looked c.args.most walk.low walk.high c.requires.under
    (short_so walk.rows.items c.args.most c.requires.short) c.next_wanted-wanted.result
    c.args.budget
    c.requires.within c.next_wanted-wanted.ensures.room c.next_wanted-wanted.ensures.fits
    (map now after.rows.items) after.looked after.low after.high c.in_ok-take_rest.ensures.rows
    c.in_ok-take_rest.ensures.looked
    (subst (λ o. is_none o ≡ true
    → length (ids_between walk.low walk.high c.args.index.now.keys) ≤ c.next_wanted-wanted.result)
    c.in_default.is c.in_ok-cut.ensures.few refl)

pub returns-then-len-room : goal.returns-then-len-room
returns-then-len-room g c =
    let now : Bor Stored → Stored = λ r. r.now in
    let q = asked c.args.query.now in
    let documents = g.T.Lookup.documents c.args.docs.now in
    let index = c.args.index.now in
    let names = map (λ (f : Bor (List ℕ)). f.now) c.args.names.now in
    let walk = c.args.walk.now in
    let cut = c.in-Some.cut in
    let count : c.len.result ≡ keys_next (falls q) index.keys walk.low walk.high cut =
    c.len.ensures ∙ ap length c.part.ensures.ids
    ∙ ap (λ b. keys_next b index.keys walk.low walk.high cut) c.falls.ensures in
    far_step q documents index names c.requires.way c.requires.way.rising
    (map now walk.rows.items) walk.looked c.args.most walk.low walk.high c.requires.under
    (short_so walk.rows.items c.args.most c.requires.short) c.next_wanted-wanted.result
    c.args.budget
    c.requires.within c.next_wanted-wanted.ensures.room c.next_wanted-wanted.ensures.fits cut
    (subst (λ o. IfSome o (IsCut q documents index names c.next_wanted-wanted.result walk.low
    walk.high)) c.in-Some.is c.in_ok-cut.ensures.cut)
    walk.low walk.high (map now walk.rows.items) walk.looked refl
    (subst (λ n. c.args.budget - walk.looked < n) count c.if-len-room.true)

pub returns : goal.returns
returns g c =
    let now : Bor Stored → Stored = λ r. r.now in
    let q = asked c.args.query.now in
    let documents = g.T.Lookup.documents c.args.docs.now in
    let index = c.args.index.now in
    let names = map (λ (f : Bor (List ℕ)). f.now) c.args.names.now in
    let walk = c.args.walk.now in
    let after = c.take_part.new.walk in
    let cut = c.in-Some.cut in
    let count : c.len.result ≡ keys_next (falls q) index.keys walk.low walk.high cut =
    c.len.ensures ∙ ap length c.part.ensures.ids
    ∙ ap (λ b. keys_next b index.keys walk.low walk.high cut) c.falls.ensures in
    subst (λ (p : Position × Position). HasStepped q documents index c.args.most c.args.budget
    walk.looked (map now after.rows.items) after.looked p.0 p.1 More)
    (λ i. (sym c.in_ok-take_part.ensures.low i, sym c.in_ok-take_part.ensures.high i))
    (more_step q documents index names c.requires.way c.requires.way.rising
    (map now walk.rows.items) walk.looked c.args.most walk.low walk.high c.requires.under
    (short_so walk.rows.items c.args.most c.requires.short) c.next_wanted-wanted.result
    c.args.budget
    c.requires.within c.next_wanted-wanted.ensures.room c.next_wanted-wanted.ensures.fits cut
    (subst (λ o. IfSome o (IsCut q documents index names c.next_wanted-wanted.result walk.low
    walk.high)) c.in-Some.is c.in_ok-cut.ensures.cut)
    (map now after.rows.items) after.looked c.in_ok-take_part.ensures.rows
    c.in_ok-take_part.ensures.looked
    (subst (λ n. n ≤ c.args.budget - walk.looked) count c.if-len-room.false))
