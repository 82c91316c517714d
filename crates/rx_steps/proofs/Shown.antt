-- What a world shows, in parts.
use Rattle.std.proofs.Common.{◌≡◌, ℕ, List, take, Some, sym, ap, ◌∙◌}
use Rattle.rx_value.specs.Due.{◌>>=◌}
use Rattle.rx_value.specs.Named.{named}
use Rattle.rx_value.proofs.Outcomes.{not_none, some_same, some_then}
use Rattle.rx_schema.specs.declared.shape.Shape.{Shape}
use Rattle.rx_collection.specs.Held.{Held}
use Rattle.rx_record.specs.declared.record.MasterName.{MasterName}
use Rattle.rx_record.specs.declared.record.MasterName.TheVariants.{Local, Port}
use Rattle.rx_replication.specs.Exchange.{Link}
use Rattle.rx_replication.specs.Left.{link_of}
use Rattle.rx_replication.specs.Steps.{System}
use Rattle.rx_sync.specs.Asking.{fork_in}
use Rattle.rx_sync.specs.Asks.{Asks}
use Rattle.rx_sync.specs.Bound as bound
use Rattle.rx_sync.specs.Bound.{link_in}
use Rattle.rx_sync.specs.Handling.{local_name}
use Rattle.rx_sync.proofs.Steps.{link_at}
use Rattle.rx_world.specs.World.{World}
use Rattle.rx_world.specs.declared.replication.Replication.{Replication}
use Rattle.rx_steps.specs.Shows.{Shows, link_of_schema, of_schema}
use Rattle.rx_steps.proofs.Standing.{IsShown}

-- all that is shown beside the two collections and what is known
pub record IsRest (a : Asks) (w : World) (s : System) : Type 0 where
  pub epoch : s.epoch ≡ w.epoch
  pub n : s.n ≡ a.n
  pub remembered : ℕ
  pub requests : a.requests ≡ take remembered (take s.since s.requests)

-- ---- one way

pub shows_of : (a : Asks) (w : World) (name : List ℕ) (r : Replication) (m : List ℕ) (z : Shape)
    (s : System) → IsShown w name r m z s → IsRest a w s → Shows a w name s
shows_of a w name r m z s x rest = record {
  schema = z;
  link =
      link_at w name r m (of_schema z s.fork) (of_schema z s.master) x.held x.local x.fork x.master
      ∙ λ i. Some (record {
        fork = of_schema z s.fork;
        master = of_schema z s.master;
        known = x.known i;
        up = x.up i;
        down = x.down i;
      });
  epoch = rest.epoch;
  n = rest.n;
  remembered = rest.remembered;
  requests = rest.requests;
}

-- ---- and the other

pub rest_of : (a : Asks) (w : World) (name : List ℕ) (s : System) → Shows a w name s
    → IsRest a w s
rest_of a w name s shows = record {
  epoch = shows.epoch;
  n = shows.n;
  remembered = shows.remembered;
  requests = shows.requests;
}

is_local : (n : MasterName) (m : List ℕ) → local_name n ≡ Some m → n ≡ Local m
is_local (Local k) m is = ap Local (some_same is)
is_local (Port port) m is = not_none is

pub record HasShown (w : World) (name : List ℕ) (z : Shape) (s : System) : Type 0 where
  pub r : Replication
  pub m : List ℕ
  pub shown : IsShown w name r m z s

shown_parts : (w : World) (name : List ℕ) (z : Shape) (s : System) (r : Replication) (fork : Held)
    (m : List ℕ) (master : Held) → named w.replications name ≡ Some r
    → named w.collections r.fork ≡ Some fork → local_name r.master ≡ Some m
    → named w.collections m ≡ Some master
    → bound.link_of r fork master ≡ link_of_schema z (link_of s) → HasShown w name z s
shown_parts w name z s r fork m master at held local there same = record {
  r = r;
  m = m;
  shown = record {
    held = at;
    local = is_local r.master m local;
    fork = held ∙ ap (λ (x : Link). Some x.fork) same;
    master = there ∙ ap (λ (x : Link). Some x.master) same;
    known = ap (λ (x : Link). x.known) same;
    up = ap (λ (x : Link). x.up) same;
    down = ap (λ (x : Link). x.down) same;
  };
}

-- the parts of the link that is there
module _ (w : World) (name : List ℕ) (z : Shape) (s : System) where
  abbrev l : Link
  l = link_of_schema z (link_of s)

  by_master : (r : Replication) (fork : Held) (m : List ℕ) → named w.replications name ≡ Some r
      → named w.collections r.fork ≡ Some fork → local_name r.master ≡ Some m
      → (named w.collections m >>= λ master. Some (bound.link_of r fork master)) ≡ Some l
      → HasShown w name z s
  by_master r fork m at held local is =
      let d = some_then (named w.collections m) (λ master. Some (bound.link_of r fork master)) l
      is in shown_parts w name z s r fork m d.0 at held local d.1 (some_same d.2)

  by_fork : (r : Replication) (fork : Held) → named w.replications name ≡ Some r
      → named w.collections r.fork ≡ Some fork
      → (local_name r.master >>= λ at. named w.collections at >>= λ master.
      Some (bound.link_of r fork master)) ≡ Some l
      → HasShown w name z s
  by_fork r fork at held is =
      let c = some_then (local_name r.master) (λ at. named w.collections at >>= λ master.
      Some (bound.link_of r fork master)) l is in by_master r fork c.0 at held c.1 c.2

  by_replication : (r : Replication) → named w.replications name ≡ Some r
      → (fork_in w r >>= λ fork. local_name r.master >>= λ at. named w.collections at
      >>= λ master. Some (bound.link_of r fork master)) ≡ Some l
      → HasShown w name z s
  by_replication r at is =
      let b = some_then (fork_in w r) (λ fork. local_name r.master >>= λ at.
      named w.collections at >>= λ master. Some (bound.link_of r fork master)) l is in
      by_fork r b.0 at b.1 b.2

  pub shown_in : link_in w name ≡ Some l → HasShown w name z s
  shown_in is =
      let a = some_then (named w.replications name) (λ r. fork_in w r >>= λ fork.
      local_name r.master >>= λ at. named w.collections at >>= λ master.
      Some (bound.link_of r fork master)) l is in by_replication a.0 a.1 a.2

-- of the replication and the master that are held
pub shown_as : (w : World) (name : List ℕ) (z : Shape) (s : System) → HasShown w name z s
    → (r : Replication) (m : List ℕ) → named w.replications name ≡ Some r → r.master ≡ Local m
    → IsShown w name r m z s
shown_as w name z s has r m held local =
    let x = has.shown in
    let same : r ≡ has.r = some_same (sym held ∙ x.held) in
    let names : Local m ≡ Local has.m =
    sym local ∙ ap (λ (y : Replication). y.master) same ∙ x.local in
    let at : m ≡ has.m = cc in
    record {
      held = held;
      local = local;
      fork = ap (λ (y : Replication). named w.collections y.fork) same ∙ x.fork;
      master = ap (named w.collections) at ∙ x.master;
      known = ap (λ (y : Replication). y.side.known) same ∙ x.known;
      up = ap (λ (y : Replication). y.side.up) same ∙ x.up;
      down = ap (λ (y : Replication). y.side.down) same ∙ x.down;
    }
