-- Versions of files, and what more bodies add to the world that those of a file make.
use Rattle.std.proofs.Common.{◌≡◌, ◌⊎◌, ◌<◌, ◌≤◌, inl, inr, ℕ, ◌&&◌, ◌==◌, true, false, true≢false, cond, List, [], ◌∷◌, ◌++◌, length, take, nat_lt, Option, Some, None, refl, sym, ap, ◌∙◌, arith, ltb-true}
use Rattle.std.proofs.lemmas.Bool.{and_from, and_parts, cases_lt, lt-ltb}
use Rattle.std.specs.Str.{bytes_eq}
use Rattle.rx_value.proofs.Bytes.{bytes_itself, bytes_same}
use Rattle.rx_frame.specs.File.{header, second_header, BeginsWith, IsSecond, IsWhole, StandsFor, records, shortest}
use Rattle.rx_frame.proofs.Headers.{two_headers}
use Rattle.rx_frame.proofs.Records.{end_within, whole_header}
use Rattle.rx_journal.specs.Opening.{IsBegun}
use Rattle.rx_journal.specs.Windows.{HasVersion}
use Rattle.rx_record.specs.Content.{record_of}
use Rattle.rx_world.specs.Copy.{after_copied, is_end, replay_copy}
use Rattle.rx_world.specs.Replay.{replay, replay_from}
use Rattle.rx_world.specs.World.{World, empty}
use Rattle.rx_world.proofs.Replays.{replay-append, replay_from-append}
use Rattle.rx_store.specs.Versions.{file_version, replay_in, replay_of}

-- ---- the version of a file

module _ (file : List ℕ) where
  -- the number is that of the second version, or of the first
  abbrev pub IsItsVersion : ℕ → Type 0
  IsItsVersion version = (IsSecond file × (version ≡ 2)) ⊎ ((IsSecond file → ⊥) × (version ≡ 1))

  version_is : IsItsVersion (file_version file)
  unfolding file_version
  version_is =
      let long = nat_lt shortest (length file) in
      let begins = bytes_eq (take 8 file) second_header in
      elim (long && begins) as (λ b. (long && begins) ≡ b → IsItsVersion (cond b 2 1)) [
        | true ↦ (λ is.
            let both = and_parts long begins is in
            inl (
              (
                ltb-true shortest (length file) both.0,
                bytes_same (take 8 file) second_header both.1,
              ),
              refl,
            ))
        | false ↦ (λ is. inr (
          (λ second.
              let same = ap (λ (l : List ℕ). bytes_eq l second_header) second.1
              ∙ bytes_itself second_header in
              let passes = and_from long begins (lt-ltb shortest (length file) second.0) same in
              true≢false (sym passes ∙ is)),
          refl,
        ))
      ] refl

  version_second : IsSecond file → file_version file ≡ 2
  version_second is = elim version_is [ inl second ↦ second.1 | inr first ↦ absurd (first.0 is) ]

  version_first : (IsSecond file → ⊥) → file_version file ≡ 1
  version_first is = elim version_is [ inl second ↦ absurd (is second.0) | inr first ↦ first.1 ]

  pub version_begun : BeginsWith header file → file_version file ≡ 1
  version_begun begins = version_first (λ second. two_headers (sym begins ∙ second.1))

  pub version_short : length file ≤ shortest → file_version file ≡ 1
  version_short short = version_first (λ second. omega (arith, short, second.0))

  -- windows told it
  pub plays_told : (version : ℕ) (bodies : List (List ℕ)) → HasVersion file version
      → replay_in version bodies ≡ replay_of file bodies
  plays_told version bodies told =
      ap (λ (n : ℕ). replay_in n bodies) (elim version_is [
        | inl second ↦ told.second second.0 ∙ sym second.1
        | inr first ↦ told.first first.0 ∙ sym first.1
      ])

-- ---- more bodies

-- a copy that made a world has its end in it
copy-append : (o : Option World) (xs ys : List (List ℕ)) (w : World) → replay_copy o xs ≡ Some w
    → replay_copy o (xs ++ ys) ≡ replay_from (Some w) ys
unfolding replay_copy
copy-append None xs ys w made = absurd (cc)
copy-append (Some v) [] ys w made = absurd (cc)
copy-append (Some v) (x ∷ xs) ys w made =
    let after = after_copied (record_of x) v in
    elim (is_end (record_of x)) as
    (λ b. cond b (replay_from after xs) (replay_copy after xs) ≡ Some w
    → cond b (replay_from after (xs ++ ys)) (replay_copy after (xs ++ ys))
    ≡ replay_from (Some w) ys) [
      | true ↦ (λ is. replay_from-append after xs ys ∙ ap (λ o. replay_from o ys) is)
      | false ↦ (λ is. copy-append after xs ys w is)
    ] made

-- behind bodies that made a world, in either version, are those of a run
pub replay_in-append : (version : ℕ) (bodies more : List (List ℕ)) (w : World)
    → replay_in version bodies ≡ Some w
    → replay_in version (bodies ++ more) ≡ replay_from (Some w) more
replay_in-append version bodies more w made =
    elim (version == 2) as
    (λ b. cond b (replay_copy (Some empty) bodies) (replay bodies) ≡ Some w
    → cond b (replay_copy (Some empty) (bodies ++ more)) (replay (bodies ++ more))
    ≡ replay_from (Some w) more) [
      | true ↦ (λ is. copy-append (Some empty) bodies more w is)
      | false ↦ (λ is. replay-append bodies more ∙ ap (λ o. replay_from o more) is)
    ] made

-- in the second version there is a body, since no bodies make no world
some_body : (bodies more : List (List ℕ)) (w : World) → replay_in 2 bodies ≡ Some w
    → 0 < length (records (bodies ++ more))
unfolding replay_copy
some_body [] more w made = absurd (cc)
some_body (body ∷ bodies) more w made = omega arith

-- a file is begun, and its bodies make a world; bytes begin as it does, and stand for its bodies
-- with some more
module _ (file : List ℕ) (bodies : List (List ℕ)) (w : World) (begun : IsBegun file bodies)
    (plays : replay_of file bodies ≡ Some w) (c : List ℕ) (more : List (List ℕ))
    (same : take 8 c ≡ take 8 file) where
  begins : BeginsWith header file ⊎ IsSecond file
  begins = elim (whole_header file bodies begun.0) [
    | inl first ↦ inl first
    | inr second ↦ elim (cases_lt shortest (length file)) [
      | inl long ↦ inr (long, second)
      | inr short ↦ absurd (two_headers (sym (begun.1 short) ∙ second))
    ]
  ]

  some_more : IsSecond file → 0 < length (records (bodies ++ more))
  some_more second =
      some_body bodies more w
      (ap (λ (n : ℕ). replay_in n bodies) (sym (version_second file second)) ∙ plays)

  long : IsSecond file → StandsFor c (bodies ++ more) → shortest < length c
  long second (inl brief) =
      let none = ap (λ (bs : List (List ℕ)). length (records bs)) brief.1 in
      absurd (omega (arith, some_more second, none))
  long second (inr whole) =
      omega (arith, some_more second, end_within c (bodies ++ more) whole)

  -- they are of its version
  pub version_kept : StandsFor c (bodies ++ more) → file_version c ≡ file_version file
  version_kept stands = elim begins [
    | inl first ↦ version_begun c (same ∙ first) ∙ sym (version_begun file first)
    | inr second ↦ version_second c (long second stands, same ∙ second.1)
        ∙ sym (version_second file second)
  ]

  -- and begun
  pub still_begun : IsWhole c (bodies ++ more) → IsBegun c (bodies ++ more)
  still_begun whole = (
    whole,
    λ short. elim begins [
      | inl first ↦ same ∙ first
      | inr second ↦ absurd (omega (arith, short, long second (inr whole)))
    ],
  )
