-- `Reader::read` meets its promise.
use mathlib.Core.Logic.{inl, inr}
use Rattle.wire.specs.Descriptor.{info_descriptor, health_descriptor, scan_descriptor}
use Rattle.stream.proofs.inner.Seek.{seeks_info, seeks_health, seeks_scan}
use Rattle.stream.proofs.inner.Reply.{info_awaits, health_awaits, awaits_wide}
use Rattle.stream.proofs.Reader.read.Goals as goal

pub seeking-requires : goal.seeking-requires
unfolding info_descriptor
seeking-requires c = seeks_info c.in-SeekInfo.is

pub seeking-requires-in-SeekHealth : goal.seeking-requires-in-SeekHealth
unfolding health_descriptor
seeking-requires-in-SeekHealth c = seeks_health c.in-SeekHealth.is

pub seeking-requires-in-SeekScan : goal.seeking-requires-in-SeekScan
unfolding scan_descriptor
seeking-requires-in-SeekScan c = seeks_scan c.in-SeekScan.is

pub gather-requires : goal.gather-requires
gather-requires c = elim c.in-InfoReply.is [ inl e ↦ awaits_wide (info_awaits e) | inr e ↦ awaits_wide (health_awaits e) ]
