-- The C form of single replies, and of what their readers answer: all fields 0 where it is refused.
use Rattle.std.specs.Prelude.{Result, Ok, Err}
use Rattle.paper.specs.Refusals.{number_of}
use Rattle.paper.specs.declared.refusal.Refusal.{Refusal}
use Rattle.wire.specs.Reply.{blank}
use Rattle.wire.specs.declared.reply.Info.{Info}
use Rattle.wire.specs.declared.reply.Health.{Health}
use Rattle.bernkessel.specs.declared.replies.BkInfo.{BkInfo}
use Rattle.bernkessel.specs.declared.replies.BkInfoAnswer.{BkInfoAnswer}
use Rattle.bernkessel.specs.declared.replies.BkHealth.{BkHealth}
use Rattle.bernkessel.specs.declared.replies.BkHealthAnswer.{BkHealthAnswer}

unfoldable pub info_in : BkInfo → Info
info_in c = record { model = c.model; minor = c.minor; major = c.major; hardware = c.hardware; serial = c.serial }

unfoldable pub info_out : Info → BkInfo
info_out i = record { model = i.model; minor = i.minor; major = i.major; hardware = i.hardware; serial = i.serial }

unfoldable pub info_read_out : Result Info Refusal → BkInfoAnswer
info_read_out (Ok i) = record { info = info_out i; refusal = 0 }
info_read_out (Err q) = record { info = info_out blank; refusal = number_of q }

unfoldable pub health_in : BkHealth → Health
health_in c = record { status = c.status; error = c.error }

unfoldable pub health_read_out : Result Health Refusal → BkHealthAnswer
health_read_out (Ok h) = record { health = record { error = h.error; status = h.status }; refusal = 0 }
health_read_out (Err q) = record { health = record { error = 0; status = 0 }; refusal = number_of q }
