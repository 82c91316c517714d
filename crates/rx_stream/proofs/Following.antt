-- One event after another.
use Rattle.std.proofs.Common.{◌≡◌, ◌∙◌, ℕ, zero, suc, Option, Some, None, refl, ap}
use Rattle.std.specs.Option.{option_map_or}
use Rattle.rx_document.specs.Documents.{Documents}
use Rattle.rx_stream.specs.Events.{Queue, next_event, queued, followed}
use Rattle.rx_stream.specs.declared.event.Event.{Event}

module _ (documents : Documents) (q : Queue) where
  -- where there is no next event, none is queued
  pub followed_none : (n : ℕ) → next_event documents q.end ≡ None → followed n documents q ≡ q
  followed_none zero is = refl
  followed_none (suc n) is =
      ap (λ (o : Option Event). option_map_or (λ e. followed n documents (queued e q)) o q) is

  -- else it is queued first
  pub followed_some : (m n : ℕ) (e : Event) → m ≡ suc n → next_event documents q.end ≡ Some e
      → followed m documents q ≡ followed n documents (queued e q)
  followed_some m n e count is =
      ap (λ m. followed m documents q) count
      ∙ ap (λ (o : Option Event). option_map_or (λ e. followed n documents (queued e q)) o q) is
