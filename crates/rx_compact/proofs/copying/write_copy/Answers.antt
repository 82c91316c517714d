use Rattle.std.proofs.Common.{refl}
use Rattle.rx_store.proofs.Stops.{handed_on}
use Rattle.rx_world.specs.Holders.{world_in}
use Rattle.rx_compact.proofs.Copies.{begin_again, begin_collections, begin_documents, begin_end, begin_known, begin_replications, comes_end, comes_first, comes_going, comes_more, comes_stop, comes_whole, never_begun}
use Rattle.rx_compact.proofs.copying.write_copy.Goals as goal

pub returns-in_err-copy : goal.returns-in_err-copy
returns-in_err-copy g c =
    never_begun (world_in g.H.Holder.held c.args.world.now)
    (λ told. c.begin.ensures.moments told (c.requires.empty told).images)
    c.in_err-copy.ensures.disk_only c.in_err-copy.ensures.cause c.from_residual.result
    (handed_on c.from_residual.result c.in_err-copy.field-0.0 c.from_residual.ensures.1)

pub add_collections-requires : goal.add_collections-requires
add_collections-requires g c =
    let first = comes_first
    (λ told. c.in_ok-copy.ensures.begun told (c.requires.empty told).images)
    c.in_ok-copy.ensures.limit c.begin.ensures.cause.later in
    record { going = comes_going first }

pub returns-in_err-copy-2 : goal.returns-in_err-copy-2
returns-in_err-copy-2 g c =
    let w = world_in g.H.Holder.held c.args.world.now in
    let first = comes_first
    (λ told. c.in_ok-copy.ensures.begun told (c.requires.empty told).images)
    c.in_ok-copy.ensures.limit c.begin.ensures.cause.later in
    comes_stop w c.add_collections.ensures.made first refl c.in_err-copy-2.ensures.adds
    (begin_collections w) c.from_residual-in_err-copy-2.result
    (handed_on c.from_residual-in_err-copy-2.result c.in_err-copy-2.field-0.0
    c.from_residual-in_err-copy-2.ensures.1)

pub add_replications-requires : goal.add_replications-requires
add_replications-requires g c =
    let first = comes_first
    (λ told. c.in_ok-copy.ensures.begun told (c.requires.empty told).images)
    c.in_ok-copy.ensures.limit c.begin.ensures.cause.later in
    let collections = comes_more first c.in_ok-copy-2.ensures.adds in
    record { going = comes_going collections }

pub returns-in_err-copy-3 : goal.returns-in_err-copy-3
returns-in_err-copy-3 g c =
    let w = world_in g.H.Holder.held c.args.world.now in
    let first = comes_first
    (λ told. c.in_ok-copy.ensures.begun told (c.requires.empty told).images)
    c.in_ok-copy.ensures.limit c.begin.ensures.cause.later in
    let collections = comes_more first c.in_ok-copy-2.ensures.adds in
    comes_stop w c.add_collections.ensures.made collections refl c.in_err-copy-3.ensures
    (begin_replications w) c.from_residual-in_err-copy-3.result
    (handed_on c.from_residual-in_err-copy-3.result c.in_err-copy-3.field-0.0
    c.from_residual-in_err-copy-3.ensures.1)

pub add_documents-requires : goal.add_documents-requires
add_documents-requires g c =
    let first = comes_first
    (λ told. c.in_ok-copy.ensures.begun told (c.requires.empty told).images)
    c.in_ok-copy.ensures.limit c.begin.ensures.cause.later in
    let collections = comes_more first c.in_ok-copy-2.ensures.adds in
    let replications = comes_more collections c.in_ok-copy-3.ensures in
    record { going = comes_going replications }

pub returns-in_err-copy-4 : goal.returns-in_err-copy-4
returns-in_err-copy-4 g c =
    let w = world_in g.H.Holder.held c.args.world.now in
    let first = comes_first
    (λ told. c.in_ok-copy.ensures.begun told (c.requires.empty told).images)
    c.in_ok-copy.ensures.limit c.begin.ensures.cause.later in
    let collections = comes_more first c.in_ok-copy-2.ensures.adds in
    let replications = comes_more collections c.in_ok-copy-3.ensures in
    comes_stop w c.add_collections.ensures.made replications refl c.in_err-copy-4.ensures
    (begin_documents w) c.from_residual-in_err-copy-4.result
    (handed_on c.from_residual-in_err-copy-4.result c.in_err-copy-4.field-0.0
    c.from_residual-in_err-copy-4.ensures.1)

pub add_known-requires-clause-going : goal.add_known-requires-clause-going
add_known-requires-clause-going g c =
    let first = comes_first
    (λ told. c.in_ok-copy.ensures.begun told (c.requires.empty told).images)
    c.in_ok-copy.ensures.limit c.begin.ensures.cause.later in
    let collections = comes_more first c.in_ok-copy-2.ensures.adds in
    let replications = comes_more collections c.in_ok-copy-3.ensures in
    let documents = comes_more replications c.in_ok-copy-4.ensures in
    comes_going documents

pub returns-in_err-copy-5 : goal.returns-in_err-copy-5
returns-in_err-copy-5 g c =
    let w = world_in g.H.Holder.held c.args.world.now in
    let first = comes_first
    (λ told. c.in_ok-copy.ensures.begun told (c.requires.empty told).images)
    c.in_ok-copy.ensures.limit c.begin.ensures.cause.later in
    let collections = comes_more first c.in_ok-copy-2.ensures.adds in
    let replications = comes_more collections c.in_ok-copy-3.ensures in
    let documents = comes_more replications c.in_ok-copy-4.ensures in
    comes_stop w c.add_collections.ensures.made documents refl c.in_err-copy-5.ensures
    (begin_known w) c.from_residual-in_err-copy-5.result
    (handed_on c.from_residual-in_err-copy-5.result c.in_err-copy-5.field-0.0
    c.from_residual-in_err-copy-5.ensures.1)

pub add-requires-clause-going : goal.add-requires-clause-going
add-requires-clause-going g c =
    let first = comes_first
    (λ told. c.in_ok-copy.ensures.begun told (c.requires.empty told).images)
    c.in_ok-copy.ensures.limit c.begin.ensures.cause.later in
    let collections = comes_more first c.in_ok-copy-2.ensures.adds in
    let replications = comes_more collections c.in_ok-copy-3.ensures in
    let documents = comes_more replications c.in_ok-copy-4.ensures in
    let known = comes_more documents c.in_ok-copy-5.ensures in
    comes_going known

pub returns-in_err-add : goal.returns-in_err-add
returns-in_err-add g c =
    let w = world_in g.H.Holder.held c.args.world.now in
    let first = comes_first
    (λ told. c.in_ok-copy.ensures.begun told (c.requires.empty told).images)
    c.in_ok-copy.ensures.limit c.begin.ensures.cause.later in
    let collections = comes_more first c.in_ok-copy-2.ensures.adds in
    let replications = comes_more collections c.in_ok-copy-3.ensures in
    let documents = comes_more replications c.in_ok-copy-4.ensures in
    let known = comes_more documents c.in_ok-copy-5.ensures in
    comes_stop w c.add_collections.ensures.made known refl c.in_err-add.ensures
    (begin_end w c.epoch.result c.epoch.ensures) c.from_residual-in_err-add.result
    (handed_on c.from_residual-in_err-add.result c.in_err-add.field-0.0
    c.from_residual-in_err-add.ensures.1)

pub commit-requires : goal.commit-requires
commit-requires g c =
    let w = world_in g.H.Holder.held c.args.world.now in
    let first = comes_first
    (λ told. c.in_ok-copy.ensures.begun told (c.requires.empty told).images)
    c.in_ok-copy.ensures.limit c.begin.ensures.cause.later in
    let collections = comes_more first c.in_ok-copy-2.ensures.adds in
    let replications = comes_more collections c.in_ok-copy-3.ensures in
    let documents = comes_more replications c.in_ok-copy-4.ensures in
    let known = comes_more documents c.in_ok-copy-5.ensures in
    let all = comes_end w c.epoch.result c.epoch.ensures (comes_more known c.in_ok-add.ensures) in
    record { going = comes_going all }

pub returns-in_err-copy-6 : goal.returns-in_err-copy-6
returns-in_err-copy-6 g c =
    let w = world_in g.H.Holder.held c.args.world.now in
    let first = comes_first
    (λ told. c.in_ok-copy.ensures.begun told (c.requires.empty told).images)
    c.in_ok-copy.ensures.limit c.begin.ensures.cause.later in
    let collections = comes_more first c.in_ok-copy-2.ensures.adds in
    let replications = comes_more collections c.in_ok-copy-3.ensures in
    let documents = comes_more replications c.in_ok-copy-4.ensures in
    let known = comes_more documents c.in_ok-copy-5.ensures in
    let all = comes_end w c.epoch.result c.epoch.ensures (comes_more known c.in_ok-add.ensures) in
    comes_stop w c.add_collections.ensures.made all refl c.in_err-copy-6.ensures.adds
    (begin_again w) c.from_residual-in_err-copy-6.result
    (handed_on c.from_residual-in_err-copy-6.result c.in_err-copy-6.field-0.0
    c.from_residual-in_err-copy-6.ensures.1)

pub returns : goal.returns
returns g c =
    let w = world_in g.H.Holder.held c.args.world.now in
    let first = comes_first
    (λ told. c.in_ok-copy.ensures.begun told (c.requires.empty told).images)
    c.in_ok-copy.ensures.limit c.begin.ensures.cause.later in
    let collections = comes_more first c.in_ok-copy-2.ensures.adds in
    let replications = comes_more collections c.in_ok-copy-3.ensures in
    let documents = comes_more replications c.in_ok-copy-4.ensures in
    let known = comes_more documents c.in_ok-copy-5.ensures in
    let all = comes_end w c.epoch.result c.epoch.ensures (comes_more known c.in_ok-add.ensures) in
    comes_whole w c.add_collections.ensures.made all c.in_ok-copy-6.ensures.adds
    (λ told. c.in_ok-copy-6.ensures.whole told c.args.disk.now _ (all.written told)) _ refl refl
