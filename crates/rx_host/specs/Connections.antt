-- Connections that are served one after another.
use Rattle.std.specs.Prelude.{◌≡◌, ⊤, ℕ, ◌+◌, List, [], ◌∷◌, ◌++◌, map, codes, true}
use Rattle.std.specs.List.{flat_map}
use Rattle.serde_json.specs.Data.{Data, member, no_members, object, string}
use Rattle.rx_collection.specs.Held.{Held}
use Rattle.rx_outside.specs.Talk.{Talk}
use Rattle.rx_reply.specs.Writing.{number_data, output_line}
use Rattle.rx_serve.specs.Answered.{Commits}
use Rattle.rx_serve.specs.Ends.{Connection, EndsBy}
use Rattle.rx_serve.specs.Served.{Served, served, served_first}
use Rattle.rx_serve.specs.declared.ended.Ended.{Ended}
use Rattle.rx_serve.specs.declared.ended.Why.{Why}
use Rattle.rx_serve.specs.declared.ended.Why.TheVariants as why

-- ---- one connection

-- a connection as it was served: what went over its wire, the moments of its pushes, and how it
-- ended
pub record ServedConnection : Type 0 where
  pub talk : Talk
  pub moments : List ℕ
  pub ended : Ended

-- the bytes of its peer, received or not
abbrev pub coming_in : Talk → List ℕ
coming_in t = t.given ++ t.left

-- by its parts, from one collection to another
abbrev pub connection_of : Talk → List ℕ → Held → Held → Connection
connection_of t moments before after = record {
  before = before;
  after = after;
  moments = moments;
  coming = coming_in t;
  sent = t.sent;
}

-- what was served: all, or so many requests where the wire failed
abbrev pub served_by : Why → ℕ → Held → List ℕ → List ℕ → Served
served_by why.Wire n c moments coming = served_first n c moments coming
served_by why.Peer n c moments coming = served c moments coming
served_by why.Request n c moments coming = served c moments coming
served_by why.Clock n c moments coming = served c moments coming

abbrev pub served_on : Held → ServedConnection → Served
served_on c s = served_by s.ended.why s.ended.requests c s.moments (coming_in s.talk)

-- so it was served on a collection, and where it ended since the wire failed, its talk tells
pub record IsServedOn (c : Held) (s : ServedConnection) : Type 0 where
  pub ends : EndsBy s.ended.why s.ended.requests (λ commits. ⊤)
      (connection_of s.talk s.moments c (served_on c s).after)
  pub failed : s.ended.why ≡ why.Wire → s.talk.failed ≡ true

-- ---- in turn

-- the collection after them
abbrev pub collection_after : Held → List ServedConnection → Held
collection_after c [] = c
collection_after c (s ∷ ss) = collection_after (served_on c s).after ss

-- each was served on the collection as those before left it
abbrev pub AreServedOn : Held → List ServedConnection → Type 0
AreServedOn c [] = ⊤
AreServedOn c (s ∷ ss) = IsServedOn c s × AreServedOn (served_on c s).after ss

-- their commits
abbrev pub commits_through : Held → List ServedConnection → Commits
commits_through c [] = []
commits_through c (s ∷ ss) = (served_on c s).commits ++ commits_through (served_on c s).after ss

abbrev pub talks_of : List ServedConnection → List Talk
talks_of conns = map (λ s. s.talk) conns

-- the moments of all pushes
abbrev pub moments_of : List ServedConnection → List ℕ
moments_of conns = flat_map (λ s. s.moments) conns

-- ---- what is written

-- why a connection ended, as a word
abbrev pub end_word : Why → List ℕ
end_word why.Peer = codes "peer"
end_word why.Request = codes "request"
end_word why.Clock = codes "clock"
end_word why.Wire = codes "wire"

-- how the connection of a number ended
abbrev pub connection_data : ℕ → Ended → Data
connection_data i ended = object
    (member (codes "connection") (number_data i)
    (member (codes "end") (string (end_word ended.why))
    (member (codes "requests") (number_data ended.requests) no_members)))

-- as a line
abbrev pub connection_line : ℕ → Ended → List ℕ
connection_line i ended = output_line (connection_data i ended)

-- those of connections, from a number on
abbrev pub lines_from : ℕ → List ServedConnection → List ℕ
lines_from i [] = []
lines_from i (s ∷ ss) = connection_line i s.ended ++ lines_from (i + 1) ss
