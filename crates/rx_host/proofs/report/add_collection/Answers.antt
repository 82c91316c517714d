use Rattle.std.proofs.Common.{◌≡◌, ◌++◌, refl, subst, IfOk, string_bytes}
use Rattle.serde_json.specs.Data.{Data}
use Rattle.rx_reply.specs.Writing.{output_line}
use Rattle.rx_host.specs.Report.{collection_data, counts_data}
use Rattle.rx_host.proofs.report.add_collection.Goals as goal

pub returns : goal.returns
returns c =
    let coll = c.args.collection.now in
    let counts : Data = counts_data c.as_str.result.now c.len.result c.count_deleted.result
    c.as_str-2.result.now c.as_str-3.result.now in
    let same : counts ≡ collection_data coll.name coll = rw (
      c.as_str.ensures,
      c.name.ensures,
      c.len.ensures.count,
      c.count_deleted.ensures,
      c.all.ensures.documents,
      c.as_str-2.ensures,
      c.in_ok-digest.ensures,
      c.as_str-3.ensures,
      c.hash.ensures,
      c.schema.ensures,
    ) refl in
    let line = rw (c.in_ok-put_counts.ensures.before, c.line_after-writer.ensures.before)
    at c.finish_line.ensures counts
    (rw c.line_after-writer.ensures.tokens at c.in_ok-put_counts.ensures.tokens) in
    subst (λ (d : Data). IfOk c.finish_line.result
    (λ t. string_bytes t ≡ string_bytes c.args.text ++ output_line d)) same line
