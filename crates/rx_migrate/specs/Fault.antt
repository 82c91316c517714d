-- What a value's fault is of steps.
use Rattle.rx_value.specs.declared.fault.ValueFault.{ValueFault}
use Rattle.rx_value.specs.declared.fault.ValueFault.TheVariants as value
use Rattle.rx_migrate.specs.declared.fault.StepsFault.{StepsFault}
use Rattle.rx_migrate.specs.declared.fault.StepsFault.TheVariants.{NotSteps, Memory}

-- want of memory stays that, and what is no value makes no step
abbrev pub steps_fault : ValueFault → StepsFault
steps_fault value.Memory = Memory
steps_fault _ = NotSteps
