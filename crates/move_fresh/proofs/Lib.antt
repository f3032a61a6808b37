mod Starting
