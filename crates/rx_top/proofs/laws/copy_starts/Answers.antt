use Rattle.rx_top.proofs.laws.copy_starts.Goals as goal

pub returns : goal.returns
returns g c = λ disk w made is. record { legal = is.content; alike = is.images }
