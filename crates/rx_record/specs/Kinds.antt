-- Bytes that say by the first of them what stands behind it.
use Rattle.std.specs.Prelude.{ℕ, List, [], ◌∷◌, length, ◌==◌, if◌then◌else◌, Err}
use Rattle.rx_record.specs.Reading.{Reading, ◌▸◌}
use Rattle.rx_record.specs.Parts.{byte_of}

-- a kind: its byte, and what reads the bytes behind it
abbrev pub Kind : Type 0 → Type 0
Kind A = ℕ × (List ℕ → Reading A)

-- what stands behind a kind's byte, with which so many bytes are left
abbrev pub behind_kind : {A : Type 0} → List (Kind A) → ℕ → ℕ → List ℕ → Reading A
behind_kind [] left byte bs = Err left
behind_kind (k ∷ ks) left byte bs = if byte == k.0 then k.1 bs else behind_kind ks left byte bs

-- what stands at the front of bytes, by its kind
abbrev pub by_kind : {A : Type 0} → List (Kind A) → List ℕ → Reading A
by_kind kinds bs = byte_of bs ▸ λ byte more. behind_kind kinds (length bs) byte more
