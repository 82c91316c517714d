use Rattle.rx_reply.proofs.reply.Reply.put.Goals as goal

pub returns-in-Unobserve-clause-tokens : goal.returns-in-Unobserve-clause-tokens
returns-in-Unobserve-clause-tokens c = rw c.in-Unobserve.is c.put_plain-in-Unobserve.ensures.tokens

pub returns-in-Observe-clause-tokens : goal.returns-in-Observe-clause-tokens
returns-in-Observe-clause-tokens c = rw c.in-Observe.is c.put_plain-in-Observe.ensures.tokens

pub returns-in-Replicate-clause-tokens : goal.returns-in-Replicate-clause-tokens
returns-in-Replicate-clause-tokens c = rw c.in-Replicate.is c.put_plain-in-Replicate.ensures.tokens

pub returns-in-Stream-clause-tokens : goal.returns-in-Stream-clause-tokens
returns-in-Stream-clause-tokens c = rw c.in-Stream.is c.put_plain-in-Stream.ensures.tokens

pub returns-in-Unstream-clause-tokens : goal.returns-in-Unstream-clause-tokens
returns-in-Unstream-clause-tokens c = rw c.in-Unstream.is c.put_plain-in-Unstream.ensures.tokens
