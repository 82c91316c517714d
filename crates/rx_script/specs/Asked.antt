-- What a line asks, with the JSON in it as the data that it stands for.
use Rattle.std.specs.Prelude.{◌≡◌, ◌≤◌, ⊤, ℕ, List, map, true, Option, option_map, IfSome}
use Rattle.std.specs.List.{list_all, AllByRecursion}
use Rattle.serde_json.specs.Data.{Data}
use Rattle.serde_json.specs.View.{view}
use Rattle.rx_value.specs.Name.{is_name}
use Rattle.rx_value.specs.Value.{largest}
use Rattle.rx_migrate.specs.declared.step.Step.{Step}
use Rattle.rx_update.specs.declared.attached.When.{When}
use Rattle.rx_script.specs.Link.{IsHappening}
use Rattle.rx_script.specs.Member.{is_object}
use Rattle.rx_script.specs.Target.{IsTarget}
use Rattle.rx_script.specs.declared.delivery.Delivery.{Delivery}
use Rattle.rx_script.specs.declared.happening.Happening.{Happening}
use Rattle.rx_script.specs.declared.line.Line.{Line}
use Rattle.rx_script.specs.declared.line.Line.TheVariants as line
use Rattle.rx_script.specs.declared.since.Since.{Since}
use Rattle.rx_script.specs.declared.target.Target.{Target}

pub data Asked : Type 0 where
  Collection : (name : List ℕ) (schema : Data) → Asked
  Insert : (coll : List ℕ) (doc : Data) → Asked
  Bulk : (coll : List ℕ) (docs : List Data) → Asked
  Upsert : (coll : List ℕ) (doc : Data) → Asked
  Patch : (coll key : List ℕ) (set : Data) (rev : Option (List ℕ)) → Asked
  Update : (coll key : List ℕ) (update : Data) (rev : Option (List ℕ)) → Asked
  Remove : (coll key : List ℕ) (rev : Option (List ℕ)) → Asked
  Hook : (coll : List ℕ) (when : When) (hook field : List ℕ) → Asked
  Migrate : (coll : List ℕ) (schema : Data) (steps : List Step) → Asked
  Get : (coll key : List ℕ) → Asked
  Find : (coll : List ℕ) (query : Data) → Asked
  Count : (coll : List ℕ) (query : Data) → Asked
  Observe : (name coll : List ℕ) (query : Data) → Asked
  Unobserve : (name : List ℕ) → Asked
  Explain : (name : List ℕ) → Asked
  Replicate : (name fork : List ℕ) (master : Target) (handler : List ℕ) (field : Option (List ℕ))
      → Asked
  Turn : (name : List ℕ) (batch budget : ℕ) (link : Option (List Happening)) → Asked
  Sweep : (name : List ℕ) (batch budget : ℕ) → Asked
  Stream : (name : List ℕ) → Asked
  Deliver : (name : List ℕ) (link : Option (List Delivery)) → Asked
  Unstream : (name : List ℕ) → Asked
  Changes : (coll : List ℕ) (since : Option Since) (batch : ℕ) → Asked
  Tick : (at : ℕ) → Asked
  Restart : Asked
  Digest : (coll : List ℕ) → Asked

abbrev pub asked : Line → Asked
asked (line.Collection name schema) = Collection name (view schema)
asked (line.Insert coll doc) = Insert coll (view doc)
asked (line.Bulk coll docs) = Bulk coll (map view docs.items)
asked (line.Upsert coll doc) = Upsert coll (view doc)
asked (line.Patch coll key set rev) = Patch coll key (view set) rev
asked (line.Update coll key update rev) = Update coll key (view update) rev
asked (line.Remove coll key rev) = Remove coll key rev
asked (line.Hook coll when hook field) = Hook coll when hook field
asked (line.Migrate coll schema steps) = Migrate coll (view schema) steps
asked (line.Get coll key) = Get coll key
asked (line.Find coll query) = Find coll (view query)
asked (line.Count coll query) = Count coll (view query)
asked (line.Observe name coll query) = Observe name coll (view query)
asked (line.Unobserve name) = Unobserve name
asked (line.Explain name) = Explain name
asked (line.Replicate name fork master handler field) = Replicate name fork master handler field
asked (line.Turn name batch budget link) = Turn name batch budget (option_map (λ l. l.items) link)
asked (line.Sweep name batch budget) = Sweep name batch budget
asked (line.Stream name) = Stream name
asked (line.Deliver name link) = Deliver name (option_map (λ l. l.items) link)
asked (line.Unstream name) = Unstream name
asked (line.Changes coll since batch) = Changes coll since batch
asked (line.Tick at) = Tick at
asked line.Restart = Restart
asked (line.Digest coll) = Digest coll

-- the most documents of a batch
abbrev pub max_batch : ℕ
max_batch = 100

-- the most exchanges of a turn
abbrev pub max_budget : ℕ
max_budget = 100000

-- and as many as it may make where no number is given
abbrev pub usual_budget : ℕ
usual_budget = 1000

-- names are names, documents and updates are objects, a moment and a write time are numbers of a
-- script, and ports, batches, budgets and late requests are within their limits
abbrev pub IsLawful : Asked → Type 0
IsLawful (Collection name schema) = is_name name ≡ true
IsLawful (Insert coll doc) = (is_name coll ≡ true) × (is_object doc ≡ true)
IsLawful (Bulk coll docs) = (is_name coll ≡ true) × (list_all is_object docs ≡ true)
IsLawful (Upsert coll doc) = (is_name coll ≡ true) × (is_object doc ≡ true)
IsLawful (Patch coll key set rev) = (is_name coll ≡ true) × (is_object set ≡ true)
IsLawful (Update coll key update rev) = (is_name coll ≡ true) × (is_object update ≡ true)
IsLawful (Remove coll key rev) = is_name coll ≡ true
IsLawful (Hook coll when hook field) = is_name coll ≡ true
IsLawful (Migrate coll schema steps) = is_name coll ≡ true
IsLawful (Get coll key) = is_name coll ≡ true
IsLawful (Find coll query) = is_name coll ≡ true
IsLawful (Count coll query) = is_name coll ≡ true
IsLawful (Observe name coll query) = (is_name name ≡ true) × (is_name coll ≡ true)
IsLawful (Unobserve name) = is_name name ≡ true
IsLawful (Explain name) = is_name name ≡ true
IsLawful (Replicate name fork master handler field) =
    (is_name name ≡ true) × (is_name fork ≡ true) × IsTarget master
IsLawful (Turn name batch budget link) =
    (is_name name ≡ true) × (1 ≤ batch) × (batch ≤ max_batch)
    × (1 ≤ budget) × (budget ≤ max_budget) × IfSome link (AllByRecursion IsHappening)
IsLawful (Sweep name batch budget) =
    (is_name name ≡ true) × (1 ≤ batch) × (batch ≤ max_batch)
    × (1 ≤ budget) × (budget ≤ max_budget)
IsLawful (Stream name) = is_name name ≡ true
IsLawful (Deliver name link) = is_name name ≡ true
IsLawful (Unstream name) = is_name name ≡ true
IsLawful (Changes coll since batch) =
    (is_name coll ≡ true) × IfSome since (λ s. s.lwt ≤ largest) × (1 ≤ batch) × (batch ≤ max_batch)
IsLawful (Tick at) = at ≤ largest
IsLawful Restart = ⊤
IsLawful (Digest coll) = is_name coll ≡ true
