-- A connection on its way.
use Rattle.std.specs.Prelude.{◌≡◌, ℕ, ◌+◌, suc, ◌≤◌, List, [], ◌++◌, Option, Some, None}
use Rattle.rx_collection.specs.Held.{Held}
use Rattle.rx_serve.specs.Answered.{Commits}
use Rattle.rx_serve.specs.Served.{served_first, ends_here, after_replies}
use Rattle.rx_serve.specs.declared.ended.Ended.{Ended}
use Rattle.rx_serve.specs.declared.ended.Why.{Why}
use Rattle.rx_serve.specs.declared.ended.Why.TheVariants as why

-- these bytes begin with those
abbrev pub IsFront : List ℕ → List ℕ → Type 0
IsFront front bytes = (rest : List ℕ) × (bytes ≡ front ++ rest)

-- where it stands: the collection, the bytes to come, the bytes sent, and the moments of the pushes
pub record Standing : Type 0 where
  pub collection : Held
  pub coming : List ℕ
  pub sent : List ℕ
  pub moments : List ℕ

-- what was sent, the commits over which it holds, and the moments that joined, from one standing
-- to a later one
pub record Joins (Holds : Commits → Type 0) (old new : Standing) : Type 0 where
  pub bytes : List ℕ
  pub commits : Commits
  pub joined : List ℕ
  pub holds : Holds commits
  pub sent : new.sent ≡ old.sent ++ bytes
  pub moments : new.moments ≡ old.moments ++ joined

-- So many requests were answered and their replies sent: at whatever moments later ones come, what
-- is served from the old standing on is these replies, and then what is served from the new one on.
pub record Serves (n : ℕ) (Holds : Commits → Type 0) (old new : Standing) : Type 0 where
  pub joins : Joins Holds old new
  pub going : (k : ℕ) (later : List ℕ)
      → served_first (n + k) old.collection (joins.joined ++ later) old.coming
      ≡ after_replies n joins.commits joins.bytes (served_first k new.collection later new.coming)

-- It ends for that reason with no further commit, and all bytes due were sent.
pub record EndsFor (why : Why) (Holds : Commits → Type 0) (old new : Standing) : Type 0 where
  pub joins : Joins Holds old new
  pub none : joins.commits ≡ []
  pub ends : (k : ℕ) (later : List ℕ)
      → served_first (suc k) old.collection (joins.joined ++ later) old.coming
      ≡ ends_here new.collection why joins.bytes

-- It ends since the wire failed: so many more requests were answered, at most one, and a front of
-- the bytes due was sent, of no further reply a byte.
pub record Breaks (n : ℕ) (Holds : Commits → Type 0) (old new : Standing) : Type 0 where
  pub joins : Joins Holds old new
  pub few : n ≤ 1
  pub front : (k : ℕ) (later : List ℕ)
      → IsFront joins.bytes
      (served_first (suc k) old.collection (joins.joined ++ later) old.coming).due
  pub answered : (later : List ℕ)
      → (served_first n old.collection (joins.joined ++ later) old.coming).replies ≡ n
  pub after : (later : List ℕ)
      → (served_first n old.collection (joins.joined ++ later) old.coming).after ≡ new.collection
  pub committed : (later : List ℕ)
      → (served_first n old.collection (joins.joined ++ later) old.coming).commits ≡ joins.commits
  pub lines : ℕ
  pub within : (later : List ℕ)
      → IsFront joins.bytes
      (served_first lines old.collection (joins.joined ++ later) old.coming).due
  pub replied : (later : List ℕ)
      → (served_first lines old.collection (joins.joined ++ later) old.coming).replies ≡ n

-- it ends so, after so many more requests
abbrev pub EndsSo : Why → ℕ → (Commits → Type 0) → Standing → Standing → Type 0
EndsSo why.Wire n Holds old new = Breaks n Holds old new
EndsSo why.Peer n Holds old new = (n ≡ 0) × EndsFor why.Peer Holds old new
EndsSo why.Request n Holds old new = (n ≡ 0) × EndsFor why.Request Holds old new
EndsSo why.Clock n Holds old new = (n ≡ 0) × EndsFor why.Clock Holds old new

-- one line more: a request was answered, or it ended
abbrev pub Steps : Option Ended → (Commits → Type 0) → Standing → Standing → Type 0
Steps None Holds old new = Serves 1 Holds old new
Steps (Some ended) Holds old new = EndsSo ended.why ended.requests Holds old new

-- A stop came before anything more was sent: the commit of the next request is sure, or may be
-- there, or there was none.
pub record Halts (Holds : Commits → Commits → Type 0) (old new : Standing) : Type 0 where
  pub n : ℕ
  pub few : n ≤ 1
  pub sure : Commits
  pub more : Commits
  pub joined : List ℕ
  pub holds : Holds sure more
  pub sent : new.sent ≡ old.sent
  pub moments : new.moments ≡ old.moments ++ joined
  pub committed : (later : List ℕ)
      → (served_first n old.collection (joined ++ later) old.coming).commits ≡ sure ++ more
