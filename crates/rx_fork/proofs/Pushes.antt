-- Rows of a push, one after another.
use Rattle.std.proofs.Common.{◌≡◌, ℕ, suc, ◌-◌, ◌<◌, ◌≤◌, List, [], ◌∷◌, ◌++◌, length, get_or, map, take, Option, Some, refl, sym, ap, ◌∙◌, arith}
use Rattle.std.proofs.Math.Seq.{take-suc}
use Rattle.rx_value.specs.Named.{named}
use Rattle.rx_value.specs.declared.state.State.{State}
use Rattle.rx_document.specs.Documents.{Documents}
use Rattle.rx_document.specs.declared.place.Place.{Place}
use Rattle.rx_wire.specs.declared.message.PushRow.{PushRow}
use Rattle.rx_replication.specs.Taking.{real_state, place_or, pushed_place}
use Rattle.rx_replication.proofs.Taken.{real_state-key}

-- the place after one more row
pub pushed_place-append : (fork : Documents) (up : Option Place) (rows : List PushRow)
    (row : PushRow)
    → pushed_place fork up (rows ++ row ∷ [])
    ≡ place_or (pushed_place fork up rows) (named fork row.new.key)
pushed_place-append fork up [] row = refl
pushed_place-append fork up (r ∷ rows) row =
    pushed_place-append fork (place_or up (named fork r.new.key)) rows row

-- the place of a key at a write time
abbrev pub place_at : ℕ → List ℕ → Option Place
place_at lwt key = Some (record { lwt = lwt; id = key })

-- the last row of a front decides, or else the rows before it
pub one_back : (fork : Documents) (up : Option Place) (rows : List PushRow) (n : ℕ) (row : PushRow)
    → 0 < n → n ≤ length rows → row ≡ get_or rows (n - 1) row
    → pushed_place fork up (take n rows)
    ≡ place_or (pushed_place fork up (take (n - 1) rows)) (named fork row.new.key)
one_back fork up rows n row some within is =
    let next : n ≡ suc (n - 1) = omega arith in
    let below : n - 1 < length rows = omega arith in
    ap (λ m. pushed_place fork up (take m rows)) next
    ∙ ap (pushed_place fork up) (take-suc rows (n - 1) row below)
    ∙ pushed_place-append fork up (take (n - 1) rows) (get_or rows (n - 1) row)
    ∙ ap (λ (r : PushRow). place_or (pushed_place fork up (take (n - 1) rows))
    (named fork r.new.key)) (sym is)

-- the real states have the keys of the rows
pub real_states-keys : (cs : List State) (rows : List PushRow)
    → map (λ (s : State). s.key) (map (real_state cs) rows)
    ≡ map (λ (row : PushRow). row.new.key) rows
real_states-keys cs [] = refl
real_states-keys cs (row ∷ rows) =
    ap (λ k. k ∷ map (λ (s : State). s.key) (map (real_state cs) rows)) (real_state-key cs row)
    ∙ ap (λ ks. row.new.key ∷ ks) (real_states-keys cs rows)
