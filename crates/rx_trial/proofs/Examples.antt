-- The definitions compute to what was worked out by hand from the rule.
use Rattle.std.proofs.Common.{◌≡◌, ℕ, List, [], ◌∷◌, ◌++◌, map, refl, None}
use Rattle.std.specs.Prelude.{codes}
use Rattle.std.specs.Fmt.{digits}
use Rattle.rx_trial.specs.Drawing.{draw, line, stirred}
use Rattle.rx_trial.specs.Lines.{drawn, script}
use Rattle.rx_trial.specs.Printing.{text}
use Rattle.rx_trial.specs.Summary.{summary_line}

first_state : stirred 0 ≡ 1442695040888963407
unfolding stirred
first_state = refl

first_draw : draw 16 0 ≡ 15
unfolding stirred draw
first_draw = refl

-- eight lines of a seed
eight : map text (drawn 8 0)
    ≡ codes "{\"do\":\"turn\",\"name\":\"r\"}"
    ∷ codes "{\"do\":\"upsert\",\"doc\":{\"id\":\"k37\",\"n\":36,\"on\":true},\"in\":\"m\"}"
    ∷ codes "{\"do\":\"patch\",\"in\":\"f\",\"key\":\"k34\",\"set\":{\"n\":75}}"
    ∷ codes "{\"do\":\"upsert\",\"doc\":{\"id\":\"k39\",\"n\":3,\"on\":false},\"in\":\"f\"}"
    ∷ codes "{\"do\":\"upsert\",\"doc\":{\"id\":\"k45\",\"n\":80,\"on\":false},\"in\":\"m\"}"
    ∷ codes "{\"do\":\"remove\",\"in\":\"f\",\"key\":\"k28\"}"
    ∷ codes "{\"do\":\"patch\",\"in\":\"f\",\"key\":\"k33\",\"set\":{\"n\":34}}"
    ∷ codes "{\"do\":\"upsert\",\"doc\":{\"id\":\"k37\",\"n\":38,\"on\":true},\"in\":\"f\"}" ∷ []
unfolding stirred draw digits
eight = refl

removed_from_the_master : text (line 4).gives
    ≡ codes "{\"do\":\"remove\",\"in\":\"m\",\"key\":\"k42\"}"
unfolding stirred draw digits
removed_from_the_master = refl

ticked : text (line 2).gives
    ≡ codes "{\"at\":491882,\"do\":\"tick\"}"
unfolding stirred draw digits
ticked = refl

restarted : text (line 19).gives
    ≡ codes "{\"do\":\"restart\"}"
unfolding stirred draw digits
restarted = refl

linked : text (line 48).gives
    ≡ codes "{\"batch\":5,\"budget\":20,\"do\":\"turn\","
    ++ codes "\"link\":[\"ok\",\"lose_request\",\"lose_reply\"],\"name\":\"r\"}"
unfolding stirred draw digits
linked = refl

linked_twice : text (line 190).gives
    ≡ codes "{\"batch\":5,\"budget\":20,\"do\":\"turn\","
    ++ codes "\"link\":[\"twice\",\"twice\",\"stale\"],\"name\":\"r\"}"
unfolding stirred draw digits
linked_twice = refl

abbrev collection_line : List ℕ → List ℕ
collection_line name = codes "{\"do\":\"collection\",\"name\":" ++ name
    ++ codes ",\"schema\":{\"primaryKey\":\"id\",\"properties\":{"
    ++ codes "\"id\":{\"maxLength\":8,\"type\":\"string\"},\"n\":{\"type\":\"integer\"},"
    ++ codes "\"on\":{\"type\":\"boolean\"}},\"type\":\"object\",\"version\":0}}"

abbrev first_five : List (List ℕ)
first_five =
    collection_line (codes "\"m\"")
    ∷ collection_line (codes "\"f\"")
    ∷ (codes "{\"do\":\"replicate\",\"field\":\"n\",\"fork\":\"f\",\"handler\":\"greater\","
    ++ codes "\"master\":\"m\",\"name\":\"r\"}")
    ∷ (codes "{\"do\":\"observe\",\"in\":\"f\",\"name\":\"q\",\"query\":{\"limit\":10,"
    ++ codes "\"selector\":{\"n\":{\"$gte\":50}},\"sort\":[{\"n\":\"desc\"}]}}")
    ∷ (codes "{\"do\":\"observe\",\"in\":\"m\",\"name\":\"p\",\"query\":{"
    ++ codes "\"selector\":{\"on\":true},\"skip\":2}}") ∷ []

abbrev last : List ℕ
last = codes "{\"batch\":100,\"budget\":100000,\"do\":\"turn\",\"name\":\"r\"}"

one_drawn : script 0 1 ≡ first_five ++ codes "{\"do\":\"turn\",\"name\":\"r\"}" ∷ last ∷ []
unfolding stirred draw
one_drawn = refl

none_drawn : script 7 0 ≡ first_five ++ last ∷ []
none_drawn = refl

without_collections : summary_line (record {
  digest_f = None;
  digest_m = None;
  emissions = 2;
  end = None;
  lines = 17;
  refused = 10;
}) ≡ codes "{\"digest_f\":\"none\",\"digest_m\":\"none\",\"emissions\":2,"
    ++ codes "\"end\":\"none\",\"lines\":17,\"refused\":10}"
unfolding digits
without_collections = refl
