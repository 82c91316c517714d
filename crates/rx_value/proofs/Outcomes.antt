-- What readings and look-ups that went well, or found nothing, tell of their parts.
use Rattle.std.proofs.Common.{◌≡◌, Bool, true, false, true≢false, cond, Option, Some, None, is_some, is_none, option_map, Result, Ok, Err, refl, sym, ap}
use Rattle.std.proofs.lemmas.Option.{none-some, same_Some}
use Rattle.std.proofs.lemmas.Result.{IfOk-weaker}
use Rattle.std.specs.Option.{option_or}
use Rattle.std.specs.Prelude.{⊤}
use Rattle.std.specs.Result.{IfOk, OnOk, OnErr}
use Rattle.rx_value.specs.Due.{◌>>◌, ◌>>=◌, demand, or_fault}

-- both parts of two readings went well
pub ok_then : {A B E : Type 0} (r : Result A E) (f : A → Result B E) (y : B) → (r >> f) ≡ Ok y
    → (x : A) × (r ≡ Ok x) × (f x ≡ Ok y)
ok_then (Ok x) f y h = (x, refl, h)
ok_then (Err e) f y h = cc

-- both parts of two look-ups found something
pub some_then : {A B : Type 0} (o : Option A) (f : A → Option B) (y : B) → (o >>= f) ≡ Some y
    → (x : A) × (o ≡ Some x) × (f x ≡ Some y)
some_then (Some x) f y h = (x, refl, h)
some_then None f y h = cc

-- there was something
pub some_of : {A E : Type 0} (e : E) (o : Option A) (x : A) → or_fault e o ≡ Ok x → o ≡ Some x
some_of e (Some y) x h = let same : y ≡ x = cc in ap Some same
some_of e None x h = cc

-- the test was passed
pub demanded : {E : Type 0} (b : Bool) (e : E) (u : ⊤) → demand b e ≡ Ok u → b ≡ true
demanded true e u h = refl
demanded false e u h = cc

-- the first of two was none, and so the second
pub none_or : {A : Type 0} (a b : Option A) → option_or a b ≡ None → (a ≡ None) × (b ≡ None)
none_or None b h = (refl, h)
none_or (Some x) b h = cc

-- nothing was made of nothing
pub none_mapped : {A B : Type 0} (f : A → B) (a : Option A) → option_map f a ≡ None → a ≡ None
none_mapped f None h = refl
none_mapped f (Some x) h = cc

-- a test that there is nothing
pub none_is : {A : Type 0} (o : Option A) → is_none o ≡ true → o ≡ None
none_is None h = refl
none_is (Some x) h = cc

-- a test that there is something
pub some_is : {A : Type 0} (o : Option A) → is_some o ≡ true → (x : A) × (o ≡ Some x)
some_is None h = absurd (true≢false (sym h))
some_is (Some x) h = (x, refl)

-- that a function makes something of something
pub some_mapped : {A B : Type 0} (f : A → B) (o : Option A) → is_some o ≡ is_some (option_map f o)
some_mapped f None = refl
some_mapped f (Some x) = refl

-- something at a test, or else another look-up
pub some_if : {A : Type 0} (b : Bool) (x : A) (o : Option A)
    → is_some (cond b (Some x) o) ≡ cond b true (is_some o)
some_if true x o = refl
some_if false x o = refl

-- and nothing at a test
pub none_if : {A : Type 0} (b : Bool) (o : Option A)
    → is_some (cond b None o) ≡ cond b false (is_some o)
none_if true o = refl
none_if false o = refl

-- equal ones hold equal things: std's same_Some, with both left to be found
pub some_same : {A : Type 0} {x y : A} → Some x ≡ Some y → x ≡ y
some_same {x = x} {y = y} e = same_Some x y e

-- nothing is no thing
pub not_none : {A B : Type 0} {x : A} → None ≡ Some x → B
not_none {x = x} e = absurd (none-some x e)

-- what follows from what is known of an answer: std's IfOk-weaker, the known first
pub if_ok : {T E : Type 0} (r : Result T E) (P Q : T → Type 0) → IfOk r P → ((x : T) → P x → Q x)
    → IfOk r Q
if_ok r P Q h f = IfOk-weaker r P Q f h

-- what holds anyhow holds where it went well
pub on_ok : {T E : Type 0} (r : Result T E) (P : Type 0) → P → OnOk r P
on_ok (Ok x) P p = p
on_ok (Err e) P p = tt

-- and where it didn't
pub on_err : {T E : Type 0} (r : Result T E) (P : Type 0) → P → OnErr r P
on_err (Ok x) P p = tt
on_err (Err e) P p = p
