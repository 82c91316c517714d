-- What is printed of the exchanges of a turn.
use Rattle.std.specs.Prelude.{ℕ, ◌+◌, List, [], ◌∷◌, ◌++◌, codes, Option, option_map}
use Rattle.serde_json.specs.Data.{Data, string, object, Members, no_members, member}
use Rattle.rx_document.specs.declared.place.Place.{Place}
use Rattle.rx_reply.specs.Writing.{number_data, list_data, place_data, optional_member, output_line}
use Rattle.rx_reply.specs.declared.turn.Exchanged.{Exchanged}
use Rattle.rx_reply.specs.declared.turn.Exchanged.TheVariants.{Pushed, Pulled, PushLost, PullLost}
use Rattle.rx_reply.specs.declared.turn.Lost.{Lost as Loss}
use Rattle.rx_reply.specs.declared.turn.Lost.TheVariants.{LoseRequest, LoseReply, Stale, Dial, Wire, Reply, Foreign, BadReply}
use Rattle.rx_reply.specs.declared.turn.TurnEnd.{TurnEnd}
use Rattle.rx_reply.specs.declared.turn.TurnEnd.TheVariants.{Quiet, Lost, Clock, More}

-- why an exchange was lost
abbrev pub lost_word : Loss → List ℕ
lost_word LoseRequest = codes "lose_request"
lost_word LoseReply = codes "lose_reply"
lost_word Stale = codes "stale"
lost_word Dial = codes "dial"
lost_word Wire = codes "wire"
lost_word Reply = codes "reply"
lost_word Foreign = codes "foreign"
lost_word BadReply = codes "bad_reply"

-- how a turn ended
abbrev pub end_word : TurnEnd → List ℕ
end_word Quiet = codes "quiet"
end_word Lost = codes "lost"
end_word Clock = codes "clock"
end_word More = codes "more"

-- ---- the object of an exchange, which has a number

-- the members that end with what was sent
abbrev pub sent_members : List ℕ → Members
sent_members sent = member (codes "sent") (string sent) no_members

-- the same, with the keys of the rows that went over the link
abbrev pub rows_members : List (List ℕ) → List ℕ → Members
rows_members rows sent = member (codes "rows") (list_data string rows) (sent_members sent)

abbrev pub pushed_data : ℕ → List (List ℕ) → List (List ℕ) → Data
pushed_data number rows conflicts = object
    (member (codes "conflicts") (list_data string conflicts)
    (member (codes "exchange") (number_data number) (rows_members rows (codes "push"))))

abbrev pub pulled_data : ℕ → List (List ℕ) → Option Place → Data
pulled_data number rows place = object
    (member (codes "exchange") (number_data number)
    (optional_member (codes "place") (option_map place_data place)
    (rows_members rows (codes "pull"))))

abbrev pub push_lost_data : ℕ → List (List ℕ) → Loss → Data
push_lost_data number rows why = object
    (member (codes "exchange") (number_data number)
    (member (codes "lost") (string (lost_word why)) (rows_members rows (codes "push"))))

abbrev pub pull_lost_data : ℕ → Loss → Data
pull_lost_data number why = object
    (member (codes "exchange") (number_data number)
    (member (codes "lost") (string (lost_word why)) (sent_members (codes "pull"))))

abbrev pub exchange_data : ℕ → Exchanged → Data
exchange_data number (Pushed rows conflicts) = pushed_data number rows conflicts
exchange_data number (Pulled rows place) = pulled_data number rows place
exchange_data number (PushLost rows why) = push_lost_data number rows why
exchange_data number (PullLost why) = pull_lost_data number why

-- a line for each exchange, numbered from that number on
abbrev pub exchange_lines : ℕ → List Exchanged → List ℕ
exchange_lines number [] = []
exchange_lines number (e ∷ es) =
    output_line (exchange_data number e) ++ exchange_lines (number + 1) es
