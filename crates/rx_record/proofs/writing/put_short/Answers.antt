use Rattle.std.proofs.Common.{w16}
use Rattle.rx_record.proofs.Numbers.{digits_16, number_back}
use Rattle.rx_record.proofs.Written.{always}
use Rattle.rx_record.proofs.writing.put_short.Goals as goal

pub returns-clause-back : goal.returns-clause-back
returns-clause-back c =
    always c.extend_from_slice.result
    (λ more. number_back w16 digits_16 c.args.number more c.ranges.number.fits)
