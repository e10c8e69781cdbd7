-- The cut to a snap length, of a step.
use Rattle.std.specs.Prelude.{ℕ, Option}
use Rattle.cap_base.specs.declared.steps.Step.{Step}
use Rattle.cap_base.specs.declared.steps.Step.TheVariants as step
use Rattle.source_reader.specs.Reading.{cut_interface, cut_packet}

-- a step with the snap length put on it
abbrev pub cut_step : Option ℕ → Step → Step
cut_step snap (step.Iface i) = step.Iface (cut_interface snap i)
cut_step snap (step.Packet p) = step.Packet (cut_packet snap p)
cut_step snap step.More = step.More
cut_step snap (step.Bad code at) = step.Bad code at
