-- Why a line changes nothing, from the faults of its parts. Want of memory stays so.
use Rattle.std.specs.Prelude.{None}
use Rattle.rx_value.specs.declared.fault.ValueFault.{ValueFault}
use Rattle.rx_value.specs.declared.fault.ValueFault.TheVariants as value
use Rattle.rx_schema.specs.Validity.{Fault as Invalidity, missing, unknown, of_kind, of_bounds, of_length}
use Rattle.rx_schema.specs.declared.fault.SchemaFault.{SchemaFault}
use Rattle.rx_schema.specs.declared.fault.SchemaFault.TheVariants as schema
use Rattle.rx_query.specs.declared.fault.QueryFault.{QueryFault}
use Rattle.rx_query.specs.declared.fault.QueryFault.TheVariants as query
use Rattle.rx_script.specs.declared.fault.LineFault.{LineFault}
use Rattle.rx_script.specs.declared.fault.LineFault.TheVariants as line
use Rattle.rx_reply.specs.declared.refusal.Cause.TheVariants as cause
use Rattle.rx_reply.specs.declared.refusal.DocumentFault.{DocumentFault}
use Rattle.rx_reply.specs.declared.refusal.DocumentFault.TheVariants as document
use Rattle.rx_reply.specs.declared.refusal.Refusal.TheVariants as refusal
use Rattle.rx_update.specs.declared.fault.UpdateFault.{UpdateFault}
use Rattle.rx_update.specs.declared.fault.UpdateFault.TheVariants as update
use Rattle.rx_update.specs.declared.fault.VetoFault.{VetoFault}
use Rattle.rx_update.specs.declared.fault.VetoFault.TheVariants as veto
use Rattle.rx_world.specs.declared.fault.StepFault.{StepFault}
use Rattle.rx_world.specs.declared.fault.StepFault.TheVariants as step
use Rattle.rx_writes.specs.declared.fault.Fault.{Fault}
use Rattle.rx_writes.specs.declared.fault.Fault.TheVariants.{Refused, Memory}

abbrev pub of_line : LineFault → Fault
of_line line.Memory = Memory
of_line fault = Refused (refusal.Line fault)

abbrev pub of_schema : SchemaFault → Fault
of_schema schema.Memory = Memory
of_schema fault = Refused (refusal.Schema fault)

abbrev pub of_query : QueryFault → Fault
of_query query.Memory = Memory
of_query fault = Refused (refusal.Query fault)

-- a fault of the only document
abbrev pub of_document : DocumentFault → Fault
of_document fault = Refused (refusal.Document fault None)

abbrev pub of_value : ValueFault → Fault
of_value value.Memory = Memory
of_value fault = of_document (document.Fields fault)

abbrev pub of_update : UpdateFault → Fault
of_update update.Memory = Memory
of_update fault = Refused (refusal.Update fault)

-- a hook vetoes the only document
abbrev pub of_veto : VetoFault → Fault
of_veto (veto.Vetoed hook) = Refused (refusal.Vetoed hook None)
of_veto veto.Memory = Memory

-- no write time is left
abbrev pub of_step : StepFault → Fault
of_step step.Memory = Memory
of_step step.ClockEnd = Refused refusal.Clock

-- fields that aren't valid
abbrev pub of_invalidity : Invalidity → DocumentFault
of_invalidity (missing name) = document.Invalid cause.Missing name
of_invalidity (unknown name) = document.Invalid cause.Unknown name
of_invalidity (of_kind name) = document.Invalid cause.Kind name
of_invalidity (of_bounds name) = document.Invalid cause.Bounds name
of_invalidity (of_length name) = document.Invalid cause.Length name
