-- What is to be done.
use Rattle.rx_query.specs.QuerySpec.{asked}
use Rattle.rx_record.specs.Shown.{content}
use Rattle.rx_session.specs.Doing.{Doing, nothing, set_clock, write, watch, unwatch, attach, open_stream, close_stream}
use Rattle.rx_session.specs.declared.doing.Doing.{Doing as Done}
use Rattle.rx_session.specs.declared.doing.Doing.TheVariants as done

abbrev pub done_by : Done → Doing
done_by done.Nothing = nothing
done_by (done.SetClock at) = set_clock at
done_by (done.Write entry) = write (content entry)
done_by (done.Watch w) = watch w.name w.coll (asked w.query)
done_by (done.Unwatch name) = unwatch name
done_by (done.Attach one) = attach one
done_by (done.OpenStream opening) = open_stream opening.name opening.master
done_by (done.CloseStream name) = close_stream name
