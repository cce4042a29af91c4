-- What is claimed of damage, proved.
--
--   damage   the chapter
use Rattle.claims.specs.OfDamage.{OfDamage}
use Rattle.claims.proofs.Damage.{damage_front, damage_back, damage_back_gap, damage_front_read, damage_back_read}
use Rattle.claims.proofs.ReaderSetDown.{front_lost}

pub damage : OfDamage
damage = record {
  damage_front = damage_front;
  damage_back = damage_back;
  damage_back_gap = damage_back_gap;
  damage_front_read = damage_front_read;
  damage_back_read = damage_back_read;
  front_lost = front_lost;
}
