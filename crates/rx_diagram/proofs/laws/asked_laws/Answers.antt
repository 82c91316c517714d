use Rattle.rx_diagram.proofs.Once.{asked_once, asked_is}
use Rattle.rx_diagram.specs.Asked.{asked_of}
use Rattle.rx_diagram.proofs.laws.asked_laws.Goals as goal

pub returns : goal.returns
returns c = record {
  asked = λ bits. record {
    is_asked = asked_is bits;
    no_other = λ asked is. asked_once bits asked (asked_of bits) is (asked_is bits);
  };
}
