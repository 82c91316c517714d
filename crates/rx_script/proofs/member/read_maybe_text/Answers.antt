use Rattle.std.proofs.Common.{◌≡◌, ◌∙◌, ℕ, List, Bool, true, false, true≢false, cond, Option, Some, None, is_none, is_some, option_map, Result, Ok, refl, sym, ap}
use Rattle.serde_json.specs.View.{view}
use Rattle.rx_value.specs.Due.{◌>>◌}
use Rattle.rx_script.specs.Member.{a_text}
use Rattle.rx_script.specs.declared.fault.LineFault.{LineFault}
use Rattle.rx_script.proofs.member.read_maybe_text.Goals as goal

absent : {A B : Type 0} (f : A → B) (o : Option A) → is_some o ≡ false
    → is_none (option_map f o) ≡ true
absent f None none = refl
absent f (Some x) none = absurd (true≢false none)

pub returns-then-is_none : goal.returns-then-is_none
returns-then-is_none c =
    let read : Result (Option (List ℕ)) LineFault =
    a_text c.args.name.now (view c.args.json.now) >> λ text. Ok (Some text) in
    ap (λ (b : Bool). cond b (Ok None) read)
    (ap is_none (sym c.get.ensures) ∙ absent _ c.get.result c.if-is_none.ensures)
