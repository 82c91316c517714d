-- Faults of a selector as those of a query.
use Rattle.rx_selector.specs.declared.fault.SelectorFault.{SelectorFault}
use Rattle.rx_selector.specs.declared.fault.SelectorFault.TheVariants as selector
use Rattle.rx_query.specs.declared.fault.QueryFault.{QueryFault}
use Rattle.rx_query.specs.declared.fault.QueryFault.TheVariants.{Selector, Memory}

-- want of memory stays so
abbrev pub of_selector : SelectorFault → QueryFault
of_selector selector.Memory = Memory
of_selector fault = Selector fault
