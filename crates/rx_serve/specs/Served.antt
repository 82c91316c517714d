-- What is due on a connection.
use Rattle.std.specs.Prelude.{ℕ, ◌+◌, List, [], ◌∷◌, ◌++◌, take, Option, Some, None, Result, Ok, Err}
use Rattle.rx_collection.specs.Held.{Held}
use Rattle.rx_wire.specs.Fault.{fault_text}
use Rattle.rx_wire.specs.Spelling.{request_of}
use Rattle.rx_wire.specs.Writing.{reply_text}
use Rattle.rx_wire.specs.declared.fault.WireFault.{WireFault}
use Rattle.rx_wire.specs.declared.message.AskKind.{AskKind}
use Rattle.rx_wire.specs.declared.message.AskKind.TheVariants.{Push, Pull}
use Rattle.rx_wire.specs.declared.message.Reply.{Reply}
use Rattle.rx_wire.specs.declared.message.Request.{Request}
use Rattle.rx_serve.specs.Answered.{answered_at, Commits, commit_by}
use Rattle.rx_serve.specs.Lines.{lines}
use Rattle.rx_serve.specs.declared.ended.Why.{Why}
use Rattle.rx_serve.specs.declared.ended.Why.TheVariants as why

-- the collection after it, its commits, how many replies are due, why it ends, and the bytes due
pub record Served : Type 0 where
  pub after : Held
  pub commits : Commits
  pub replies : ℕ
  pub why : Why
  pub due : List ℕ

-- a text as a line
abbrev pub as_line : List ℕ → List ℕ
as_line text = text ++ 10 ∷ []

-- it ends here, with these bytes
abbrev pub ends_here : Held → Why → List ℕ → Served
ends_here c why due = record { after = c; commits = []; replies = 0; why = why; due = due }

-- so many replies with these commits, and then what is served next
abbrev pub after_replies : ℕ → Commits → List ℕ → Served → Served
after_replies n commits bytes next = record {
  after = next.after;
  commits = commits ++ next.commits;
  replies = n + next.replies;
  why = next.why;
  due = bytes ++ next.due;
}

-- the moment of a request, which is the first one, or 0 after the last; a pull needs none
abbrev pub first_moment : List ℕ → ℕ
first_moment [] = 0
first_moment (now ∷ later) = now

abbrev pub moment_for : AskKind → List ℕ → ℕ
moment_for (Push rows) moments = first_moment moments
moment_for (Pull place batch) moments = 0

-- the moments left after it
abbrev pub later_moments : List ℕ → List ℕ
later_moments [] = []
later_moments (now ∷ later) = later

abbrev pub moments_after : AskKind → List ℕ → List ℕ
moments_after (Push rows) moments = later_moments moments
moments_after (Pull place batch) moments = moments

-- a reply, and then what is served next; the clock ended where there is none
abbrev pub reply_then : Held → Commits → Option (Reply × Held) → (Held → Served) → Served
reply_then c commits None next = ends_here c why.Clock []
reply_then c commits (Some p) next =
    after_replies 1 commits (as_line (reply_text p.0)) (next p.1)

-- a request is answered; anything else ends it with a fault
abbrev pub line_then : Held → List ℕ → Result Request WireFault → (Held → List ℕ → Served) → Served
line_then c moments (Err fault) next = ends_here c why.Request (as_line (fault_text fault))
line_then c moments (Ok q) next =
    reply_then c (commit_by c q.ask (moment_for q.ask moments))
    (answered_at c (moment_for q.ask moments) q)
    (λ after. next after (moments_after q.ask moments))

-- the lines in turn
abbrev pub served_lines : Held → List ℕ → List (List ℕ) → Served
served_lines c moments [] = ends_here c why.Peer []
served_lines c moments (l ∷ ls) =
    line_then c moments (request_of c.schema l) (λ after later. served_lines after later ls)

-- the first lines in turn
abbrev pub served_first : ℕ → Held → List ℕ → List ℕ → Served
served_first n c moments bytes = served_lines c moments (take n (lines bytes))

-- the most requests of a connection, 2^53 - 1
abbrev pub most_requests : ℕ
most_requests = 9007199254740991

-- what is served of a collection at these moments to a peer that sends these bytes
abbrev pub served : Held → List ℕ → List ℕ → Served
served = served_first most_requests
