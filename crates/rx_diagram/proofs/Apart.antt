-- Actions, questions and edges can be told apart.
use Rattle.std.proofs.Common.{◌≡◌, ◌≢◌, ◌<◌, ◌⊎◌, inl, inr, List, [], ◌∷◌, get_or, refl, sym, ap, ◌∙◌, arith}
use Rattle.std.proofs.lemmas.Bool.{cases_eq}
use Rattle.rx_table.specs.declared.action.Action.{Action}
use Rattle.rx_table.specs.declared.action.Action.TheVariants.{DoNothing, InsertFirst, InsertLast, RemoveFirstItem, RemoveLastItem, RemoveFirstInsertLast, RemoveLastInsertFirst, RemoveFirstInsertFirst, RemoveLastInsertLast, RemoveExisting, ReplaceExisting, InsertAtSortPosition, RemoveExistingAndInsertAtSortPosition, RunFullQueryAgain, InsertAtSortPositionRemoveLast}
use Rattle.rx_table.specs.declared.states.StateName.{StateName}
use Rattle.rx_table.specs.declared.states.StateName.TheVariants.{IsInsert, IsUpdate, IsDelete, HasLimit, IsFindOne, HasSkip, WasResultsEmpty, PreviousUnknown, WasLimitReached, SortParamsChanged, WasInResult, WasFirst, WasLast, WasSortedBeforeFirst, WasSortedAfterLast, IsSortedBeforeFirst, IsSortedAfterLast, WasMatching, DoesMatchNow}
use Rattle.rx_table.specs.Counts.{action_number}
use Rattle.rx_table.specs.States.{all_states, index_of}
use Rattle.rx_diagram.specs.declared.node.Edge.{Edge}
use Rattle.rx_diagram.specs.declared.node.Edge.TheVariants.{Act, To}

-- all actions, by their places
all_actions : List Action
all_actions = DoNothing ∷ InsertFirst ∷ InsertLast ∷ RemoveFirstItem ∷ RemoveLastItem
    ∷ RemoveFirstInsertLast ∷ RemoveLastInsertFirst ∷ RemoveFirstInsertFirst ∷ RemoveLastInsertLast
    ∷ RemoveExisting ∷ ReplaceExisting ∷ InsertAtSortPosition
    ∷ RemoveExistingAndInsertAtSortPosition ∷ RunFullQueryAgain ∷ InsertAtSortPositionRemoveLast
    ∷ []

-- each at its place
action_at_place : (a : Action) → get_or all_actions (action_number a) DoNothing ≡ a
unfolding all_actions
action_at_place DoNothing = refl
action_at_place InsertFirst = refl
action_at_place InsertLast = refl
action_at_place RemoveFirstItem = refl
action_at_place RemoveLastItem = refl
action_at_place RemoveFirstInsertLast = refl
action_at_place RemoveLastInsertFirst = refl
action_at_place RemoveFirstInsertFirst = refl
action_at_place RemoveLastInsertLast = refl
action_at_place RemoveExisting = refl
action_at_place ReplaceExisting = refl
action_at_place InsertAtSortPosition = refl
action_at_place RemoveExistingAndInsertAtSortPosition = refl
action_at_place RunFullQueryAgain = refl
action_at_place InsertAtSortPositionRemoveLast = refl

-- actions of one place are one
pub same_place : (a c : Action) → action_number a ≡ action_number c → a ≡ c
same_place a c e =
    sym (action_at_place a) ∙ ap (λ k. get_or all_actions k DoNothing) e ∙ action_at_place c

-- so are actions
pub action_same : (a c : Action) → (a ≡ c) ⊎ (a ≢ c)
action_same a c = elim (cases_eq (action_number a) (action_number c)) [
  | inl e ↦ inl (same_place a c e)
  | inr e ↦ inr (λ h. e (ap action_number h))
]

-- and edges
pub edge_same : (e f : Edge) → (e ≡ f) ⊎ (e ≢ f)
edge_same (Act a) (Act c) =
    elim (action_same a c) [ inl e ↦ inl (ap Act e) | inr e ↦ inr (λ h. let g : a ≡ c = cc in e g) ]
edge_same (Act a) (To k) = inr (λ h. cc)
edge_same (To j) (Act c) = inr (λ h. cc)
edge_same (To j) (To k) = elim (cases_eq j k) [
  | inl e ↦ inl (ap To e)
  | inr e ↦ inr (λ h. let g : j
      ≡ k = cc in e g)
]

-- each question at its number
state_at_index : (s : StateName) → get_or all_states (index_of s) IsInsert ≡ s
state_at_index IsInsert = refl
state_at_index IsUpdate = refl
state_at_index IsDelete = refl
state_at_index HasLimit = refl
state_at_index IsFindOne = refl
state_at_index HasSkip = refl
state_at_index WasResultsEmpty = refl
state_at_index PreviousUnknown = refl
state_at_index WasLimitReached = refl
state_at_index SortParamsChanged = refl
state_at_index WasInResult = refl
state_at_index WasFirst = refl
state_at_index WasLast = refl
state_at_index WasSortedBeforeFirst = refl
state_at_index WasSortedAfterLast = refl
state_at_index IsSortedBeforeFirst = refl
state_at_index IsSortedAfterLast = refl
state_at_index WasMatching = refl
state_at_index DoesMatchNow = refl

-- questions of one number are one
pub same_state : (s t : StateName) → index_of s ≡ index_of t → s ≡ t
same_state s t e = sym (state_at_index s) ∙ ap (λ k. get_or all_states k IsInsert) e
    ∙ state_at_index t

-- there are nineteen
pub index_small : (s : StateName) → index_of s < 19
index_small IsInsert = omega arith
index_small IsUpdate = omega arith
index_small IsDelete = omega arith
index_small HasLimit = omega arith
index_small IsFindOne = omega arith
index_small HasSkip = omega arith
index_small WasResultsEmpty = omega arith
index_small PreviousUnknown = omega arith
index_small WasLimitReached = omega arith
index_small SortParamsChanged = omega arith
index_small WasInResult = omega arith
index_small WasFirst = omega arith
index_small WasLast = omega arith
index_small WasSortedBeforeFirst = omega arith
index_small WasSortedAfterLast = omega arith
index_small IsSortedBeforeFirst = omega arith
index_small IsSortedAfterLast = omega arith
index_small WasMatching = omega arith
index_small DoesMatchNow = omega arith
