-- What was read of a record stands in its bytes, and can be written.
use Rattle.std.proofs.Common.{ℕ, List, ◌∷◌, ◌++◌, refl, w64}
use Rattle.std.specs.List.{AllByRecursion}
use Rattle.rx_record.specs.Parts.{number_bytes, text_bytes, option_bytes}
use Rattle.rx_record.specs.Content.{collection, rows, replication, exchange, epoch, migration, part, known_part, end, collection_kind, rows_kind, replication_kind, exchange_kind, epoch_kind, migration_kind, part_kind, known_part_kind, end_kind, kinds, content_bytes, collection_of, written_of, replication_of, exchange_of, epoch_of, migration_of, part_of, known_part_of, end_epoch_of, content_of}
use Rattle.rx_record.specs.Rows.{rows_bytes, states_bytes}
use Rattle.rx_record.specs.Places.{place_bytes}
use Rattle.rx_record.specs.Masters.{master_bytes}
use Rattle.rx_record.specs.Writable.{IsWritable}
use Rattle.rx_record.proofs.Formats.{IsFormat, next, last, long_format, text_format, rows_format, states_format, option_format, place_format, master_format}
use Rattle.rx_record.proofs.ByKind.{IsKind, kinds_format}
use Rattle.rx_record.proofs.StepFormats.{steps_format}
use Rattle.rx_record.proofs.PartFormats.{part_rows_format}

collection_is_kind : IsKind content_bytes IsWritable (collection_kind, collection_of)
collection_is_kind =
    next content_bytes IsWritable text_format (λ l. collection_kind ∷ l) _ (λ name name_fits.
    last content_bytes IsWritable text_format (λ l. collection_kind ∷ (text_bytes name ++ l))
    (collection name) (λ schema. refl) (λ schema schema_fits. (name_fits, schema_fits)))

rows_is_kind : IsKind content_bytes IsWritable (rows_kind, written_of)
rows_is_kind =
    next content_bytes IsWritable text_format (λ l. rows_kind ∷ l) _ (λ name name_fits.
    next content_bytes IsWritable long_format (λ l. rows_kind ∷ (text_bytes name ++ l)) _ (λ lwt _.
    last content_bytes IsWritable rows_format
    (λ l. rows_kind ∷ (text_bytes name ++ (number_bytes w64 lwt ++ l)))
    (rows name lwt) (λ written. refl) (λ written all. (name_fits, all))))

replication_is_kind : IsKind content_bytes IsWritable (replication_kind, replication_of)
replication_is_kind =
    let front : List ℕ → List ℕ = λ l. replication_kind ∷ l in
    next content_bytes IsWritable text_format front _ (λ name name_fits.
    next content_bytes IsWritable text_format (λ l. front (text_bytes name ++ l)) _
    (λ fork fork_fits.
    next content_bytes IsWritable master_format
    (λ l. front (text_bytes name ++ (text_bytes fork ++ l))) _ (λ master master_fits.
    next content_bytes IsWritable text_format
    (λ l. front (text_bytes name ++ (text_bytes fork ++ (master_bytes master ++ l)))) _
    (λ handler handler_fits.
    last content_bytes IsWritable (option_format text_format)
    (λ l. front (text_bytes name
    ++ (text_bytes fork ++ (master_bytes master ++ (text_bytes handler ++ l)))))
    (replication name fork master handler) (λ field. refl)
    (λ field field_fits. record {
      name_fits = name_fits;
      fork_fits = fork_fits;
      master_fits = master_fits;
      handler_fits = handler_fits;
      field_fits = field_fits;
    })))))

exchange_is_kind : IsKind content_bytes IsWritable (exchange_kind, exchange_of)
exchange_is_kind =
    let front : List ℕ → List ℕ = λ l. exchange_kind ∷ l in
    next content_bytes IsWritable text_format front _ (λ name name_fits.
    next content_bytes IsWritable long_format (λ l. front (text_bytes name ++ l)) _ (λ lwt _.
    next content_bytes IsWritable rows_format
    (λ l. front (text_bytes name ++ (number_bytes w64 lwt ++ l))) _ (λ written written_rows.
    next content_bytes IsWritable states_format
    (λ l. front (text_bytes name ++ (number_bytes w64 lwt ++ (rows_bytes written ++ l)))) _
    (λ known known_states.
    next content_bytes IsWritable (option_format place_format)
    (λ l. front (text_bytes name
    ++ (number_bytes w64 lwt ++ (rows_bytes written ++ (states_bytes known ++ l)))))
    _ (λ up up_place.
    last content_bytes IsWritable (option_format place_format)
    (λ l. front (text_bytes name ++ (number_bytes w64 lwt
    ++ (rows_bytes written ++ (states_bytes known ++ (option_bytes place_bytes up ++ l))))))
    (exchange name lwt written known up) (λ down. refl)
    (λ down down_place. record {
      name_fits = name_fits;
      written_rows = written_rows;
      known_states = known_states;
      up_place = up_place;
      down_place = down_place;
    }))))))

epoch_is_kind : IsKind content_bytes IsWritable (epoch_kind, epoch_of)
epoch_is_kind = last content_bytes IsWritable long_format (λ l. epoch_kind ∷ l) epoch
    (λ number. refl) (λ number _. tt)

migration_is_kind : IsKind content_bytes IsWritable (migration_kind, migration_of)
migration_is_kind =
    let front : List ℕ → List ℕ = λ l. migration_kind ∷ l in
    next content_bytes IsWritable text_format front _ (λ name name_fits.
    next content_bytes IsWritable text_format (λ l. front (text_bytes name ++ l)) _
    (λ schema schema_fits.
    last content_bytes IsWritable steps_format
    (λ l. front (text_bytes name ++ (text_bytes schema ++ l)))
    (migration name schema) (λ steps. refl)
    (λ steps written_steps. record {
      name_fits = name_fits;
      schema_fits = schema_fits;
      written_steps = written_steps;
    })))

part_is_kind : IsKind content_bytes IsWritable (part_kind, part_of)
part_is_kind =
    next content_bytes IsWritable text_format (λ l. part_kind ∷ l) _ (λ name name_fits.
    last content_bytes IsWritable part_rows_format
    (λ l. part_kind ∷ (text_bytes name ++ l)) (part name)
    (λ written. refl) (λ written all. (name_fits, all)))

known_part_is_kind : IsKind content_bytes IsWritable (known_part_kind, known_part_of)
known_part_is_kind =
    let front : List ℕ → List ℕ = λ l. known_part_kind ∷ l in
    next content_bytes IsWritable text_format front _ (λ name name_fits.
    next content_bytes IsWritable states_format (λ l. front (text_bytes name ++ l)) _
    (λ known known_states.
    next content_bytes IsWritable (option_format place_format)
    (λ l. front (text_bytes name ++ (states_bytes known ++ l))) _ (λ up up_place.
    last content_bytes IsWritable (option_format place_format)
    (λ l. front (text_bytes name ++ (states_bytes known ++ (option_bytes place_bytes up ++ l))))
    (known_part name known up) (λ down. refl)
    (λ down down_place. record {
      name_fits = name_fits;
      known_states = known_states;
      up_place = up_place;
      down_place = down_place;
    }))))

end_is_kind : IsKind content_bytes IsWritable (end_kind, end_epoch_of)
end_is_kind = last content_bytes IsWritable long_format (λ l. end_kind ∷ l) end (λ number. refl)
    (λ number _. tt)

all_are_kinds : AllByRecursion (IsKind content_bytes IsWritable) kinds
all_are_kinds = (
  collection_is_kind,
  (
    rows_is_kind,
    (
      replication_is_kind,
      (
        exchange_is_kind,
        (
          epoch_is_kind,
          (migration_is_kind, (part_is_kind, (known_part_is_kind, (end_is_kind, tt)))),
        ),
      ),
    ),
  ),
)

-- by the table of kinds
pub content_format : IsFormat content_bytes content_of IsWritable
content_format = kinds_format content_bytes IsWritable kinds all_are_kinds
